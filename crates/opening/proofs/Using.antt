-- An opening's answer taken apart: it is a refusal, or the tables are usable, before and after it, and all that is written to the scratch from then
-- on is gone once the scratch is 0 again. Rests on refusals' Answers and Rulings, tables' Usable and Within, and Opening.
use Prim.Native.Nat.{ℕ, ◌-◌}
use native.Mathlib.Omega.{arith}
use mathlib.Core.Path.{◌≡◌, refl, sym, ap, ◌∙◌, subst}
use mathlib.Core.List.{List, [], ◌∷◌}
use lib.ListN.{replicate, length-replicate}
use lib.Seq.{sets}
use Rattle.paper.specs.Map.{N, L, P}
use Rattle.paper.specs.Area.{Section, start, scratch_cleared}
use Rattle.paper.specs.Refusals.{Ruling, passed, on_refusal, decide, rule1, rule2, rule3, rule45, rule7}
use Rattle.paper.specs.Calls.{untouched, opening, area_after}
use Rattle.paper.proofs.Area.{W-sum}
use Rattle.lines_theory.proofs.Written.{start_is_lem}
use Rattle.accepted_theory.proofs.Refusals.{tables-passed}
use Rattle.std.specs.Prelude.{Ok, Err}
use Rattle.refusals.specs.Said.{ruled}
use Rattle.refusals.specs.declared.Refusal.{Refusal}
use Rattle.refusals.proofs.Answers.{rule_said, value_said}
use Rattle.refusals.proofs.Rulings.{head_passed, both_passed, roomy}
use Rattle.stepmap.specs.Formed.{ReadWell, sizes_of}
use Rattle.stepmap.proofs.Answers.{read_well}
use Rattle.tables.specs.Placed.{Placed, place, scratch_size}
use Rattle.tables.specs.Usable.{Usable, Scratched}
use Rattle.tables.specs.declared.Layout.{Layout}
use Rattle.tables.proofs.Usable.{still_usable}
use Rattle.tables.proofs.Within.{within_none, within_both, within-sets, within-filled}
use Rattle.toposort.proofs.Refusing.{passed-said}
use Rattle.opening.specs.Opened.{HasScratch, OpenLeft, layout_of, scratch_zeroed}
use Rattle.opening.proofs.Opening.{zeroed_is}

-- ---- 01's places are places

module _ (b : List ℕ) where
  standing : (s : Section) → start b s ≡ place (layout_of b) s
  unfolding layout_of
  standing Section.line_count = start_is_lem b Section.line_count
  standing Section.order = refl
  standing Section.positions = refl
  standing Section.node_starts = refl
  standing Section.lines_of_nodes = refl
  standing Section.line_starts = refl
  standing Section.nodes_of_lines = refl
  standing Section.scratch = refl

  paper_places : Placed b (layout_of b)
  unfolding layout_of
  paper_places =
      record {
        before-order = omega (arith, start_is_lem b Section.order);
        after-order = omega (arith, start_is_lem b Section.order, start_is_lem b Section.positions);
        after-positions = omega (arith, start_is_lem b Section.positions, start_is_lem b Section.node_starts);
        after-begins = omega (arith, start_is_lem b Section.node_starts, start_is_lem b Section.lines_of_nodes);
        after-lines = omega (arith, start_is_lem b Section.lines_of_nodes, start_is_lem b Section.line_starts);
        after-starts = omega (arith, start_is_lem b Section.line_starts, start_is_lem b Section.nodes_of_lines);
        after-along = omega (arith, start_is_lem b Section.nodes_of_lines, start_is_lem b Section.scratch);
        after-scratch = omega (arith, start_is_lem b Section.scratch, W-sum b);
        whole = refl;
        stands = standing;
      }

-- a refusal is the rule's that decides
pub refusal_decides : {b a : List ℕ} {x : Refusal} {m : List ℕ} → OpenLeft b a (Err x) m → ruled x ≡ decide (opening b a)
refusal_decides {b} {x = x} known = rule_said x (layout_of b) known.said

-- ---- what an opening that refused nothing leaves

module _ {b a : List ℕ} {at : Layout} {m : List ℕ} (known : OpenLeft b a (Ok at) m) where
  pub all-passed : passed ≡ decide (opening b a)
  all-passed = (value_said known.said).0

  parts : (passed ≡ decide (untouched b a)) × (passed ≡ decide (rule45 b ∷ rule7 b a ∷ []))
  unfolding opening
  parts = both_passed (untouched b a) (rule45 b ∷ rule7 b a ∷ []) all-passed

  first_three : (passed ≡ decide (rule1 b ∷ rule2 b ∷ [])) × (passed ≡ decide (rule3 b a ∷ []))
  unfolding untouched
  first_three = both_passed (rule1 b ∷ rule2 b ∷ []) (rule3 b a ∷ []) parts.0

  last_two : (passed ≡ rule45 b) × (passed ≡ decide (rule7 b a ∷ []))
  last_two = head_passed (rule45 b) (rule7 b a ∷ []) parts.1

  there : layout_of b ≡ at
  there = sym (value_said known.said).1

  read : ReadWell b (N b) (L b) (P b)
  read = read_well b (sizes_of b) (passed-said first_three.0 (sizes_of b))

  -- the tables are usable where they were tested
  pub usable-before : Usable b a at
  unfolding layout_of
  usable-before =
      subst (Usable b a) there (
      record {
        read = read;
        placed = paper_places b;
        links = sym last_two.0;
        room = roomy b a (head_passed (rule3 b a) [] first_three.1).0;
        tables = tables-passed b a (sym (head_passed (rule7 b a) [] last_two.1).0);
      }
      )

  -- the scratch ends where the area does
  long-scratch : at.end - at.scratch ≡ scratch_size at.sizes
  long-scratch =
      let placed = usable-before.placed in
      omega (arith, usable-before.read, placed.whole, placed.stands Section.scratch, start_is_lem b Section.scratch, W-sum b)

  left_so : m ≡ scratch_zeroed a at
  unfolding area_after on_refusal
  left_so =
      known.left ∙ ap (λ (u : Ruling). on_refusal u a (scratch_cleared b a)) (sym parts.0) ∙ sym (zeroed_is usable-before.placed a)

  pub opened_kept : Scratched at a m
  unfolding scratch_zeroed
  opened_kept =
      subst (Scratched at a) (sym left_so)
      (within-sets within_none at.scratch (replicate (at.end - at.scratch) 0) (omega arith)
      (omega (arith, length-replicate {A = ℕ} (at.end - at.scratch) 0, long-scratch)))

  -- .. and on the opened area
  pub usable : Usable b m at
  usable = still_usable usable-before opened_kept

  -- .. and stay so, with their scratch in place
  pub has-scratch : {z : List ℕ} → Scratched at m z → HasScratch z at
  has-scratch kept = record { ends = omega (arith, usable.placed); room = omega (arith, usable.room, kept.long) }

  -- what a question wrote to the scratch is gone once it is 0 again
  pub left-cleared : {z exit : List ℕ} → Scratched at m z → exit ≡ scratch_zeroed z at → exit ≡ area_after b a
  unfolding scratch_zeroed
  left-cleared {z} kept filled =
      filled ∙ ap (λ (k : ℕ). sets z at.scratch (replicate k 0)) long-scratch
      ∙ within-filled (within_both opened_kept kept) (omega (arith, usable-before.room, usable-before.placed)) 0
      ∙ ap (λ (k : ℕ). sets a at.scratch (replicate k 0)) (sym long-scratch) ∙ sym left_so ∙ known.left
