-- What opening a call says, in 01's numbers and places, and what it leaves in the area.
-- Rests on paper's Calls, refusals' Said, stepmap's ReadWell and tables' Placed.
use Rattle.std.specs.Prelude.{ℕ, ◌-◌, ◌≤◌, ◌≡◌, List, [], ◌∷◌, Result, length, replicate}
use Rattle.std.proofs.lemmas.List.Edits.{sets}
use Rattle.paper.specs.Area.{Section, start, W}
use Rattle.paper.specs.Refusals.{rule3, rule45, rule7, decide, answer, on_refusal}
use Rattle.paper.specs.Calls.{area_after, opening}
use Rattle.refusals.specs.Said.{answer_of}
use Rattle.refusals.specs.declared.Refusal.{Refusal}
use Rattle.stepmap.specs.Formed.{ReadWell, sizes_of}
use Rattle.tables.specs.Placed.{Placed}
use Rattle.tables.specs.declared.Layout.{Layout}

-- where 01 puts the sections of a map's area
unfoldable pub layout_of : List ℕ → Layout
layout_of b =
    record {
      sizes = sizes_of b;
      order = start b Section.order;
      positions = start b Section.positions;
      begins = start b Section.node_starts;
      lines = start b Section.lines_of_nodes;
      starts = start b Section.line_starts;
      along = start b Section.nodes_of_lines;
      scratch = start b Section.scratch;
      end = W b;
    }

-- a map that passes 1 and 2, and where the sections of its area stand
pub record Laid (b : List ℕ) (at : Layout) : Type 0 where
  pub read : ReadWell b at.sizes.nodes at.sizes.links at.sizes.ports
  pub placed : Placed b at

-- .. and an area that passes 3
pub record Roomy (b a : List ℕ) (at : Layout) : Type 0 where
  pub laid : Laid b at
  pub room : at.end ≤ length a

-- an area whose scratch stands within it
pub record HasScratch (a : List ℕ) (at : Layout) : Type 0 where
  pub ends : at.scratch ≤ at.end
  pub room : at.end ≤ length a

-- the scratch set to 0, up to its end
unfoldable pub scratch_zeroed : List ℕ → Layout → List ℕ
scratch_zeroed a at = sets a at.scratch (replicate (at.end - at.scratch) 0)

-- what is left of a map that passes 1 and 2: the answer, and the area's words
pub record PlacedLeft (b a : List ℕ) (at : Layout) (r : Result Layout Refusal) (m : List ℕ) : Type 0 where
  pub said : answer_of r ≡ answer (decide (rule3 b a ∷ rule45 b ∷ rule7 b a ∷ [])) at
  pub left : m ≡ on_refusal (rule3 b a) a (scratch_zeroed a at)

-- .. and of any map: "After 1, 2, 3 nothing has changed." "Other calls never change tables; past 3 they leave scratch 0"
pub record OpenLeft (b a : List ℕ) (r : Result Layout Refusal) (m : List ℕ) : Type 0 where
  pub said : answer_of r ≡ answer (decide (opening b a)) (layout_of b)
  pub left : m ≡ area_after b a
