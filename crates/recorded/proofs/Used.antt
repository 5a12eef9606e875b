-- A line's list held against a part of the area, and the part against the place of a section's words in use.
-- Rests on Sections and tables' Placed.
use Prim.Native.Nat.{ℕ, ◌-◌, ◌≤◌}
use native.Mathlib.Omega.{arith}
use mathlib.Core.Path.{◌≡◌, sym, ap, ap₂, subst, fun_ext, ◌∙◌}
use mathlib.Core.Bool.{Bool, true, false, cond}
use mathlib.Core.List.{List, ◌∷◌}
use lib.ListN.{length, get_or, take, drop, length-drop}
use lib.Seq.{length-take-le}
use Rattle.lists.specs.Lists.{same}
use Rattle.paper.specs.Area.{Section, start}
use Rattle.paper.specs.Map.{N, L}
use Rattle.stepmap.specs.Formed.{ReadWell}
use Rattle.stepmap.specs.declared.read.Sizes.{Sizes}
use Rattle.tables.specs.Placed.{Few, LaidOut}
use Rattle.tables.specs.declared.Layout.{Layout}
use Rattle.tables.proofs.Placed.{few, places}
use Rattle.recorded.specs.Sections.{used_at, used_in, UsedAt, Between, SameSection}
use Rattle.recorded.specs.declared.line_parts.Part.{Part}

-- no answer false is true
pub not_so : {A : Type 0} → false ≡ true → A
not_so e = let z : ◌≡◌ {A = ℕ} 0 1 = ap (λ (s : Bool). cond s 1 0) e in absurd (omega arith)

-- what `is_list` compares is the part
pub is-between : {from to : ℕ} (line a : List ℕ) {r : Bool} → from ≤ to → to ≤ length a
    → r ≡ same (drop 1 line) (length (take (to - from) (drop from a)) ∷ take (to - from) (drop from a)) → r ≡ true → Between from to line a
is-between {from} {to} line a f g says so =
    let long : length (take (to - from) (drop from a)) ≡ to - from = length-take-le (to - from) (drop from a) (omega (arith, length-drop from a)) in
    ap (λ (k : ℕ). same (drop 1 line) (k ∷ take (to - from) (drop from a))) (sym long) ∙ sym says ∙ so

-- the part of a section's words in use, in the area of a map that was read
module _ {b : List ℕ} {s : Sizes} {at : Layout} (read : ReadWell b s.nodes s.links s.ports) (out : LaidOut s at) where
  here : ReadWell b at.sizes.nodes at.sizes.links at.sizes.ports
  here = subst (λ (s : Sizes). ReadWell b s.nodes s.links s.ports) (sym out.sizes) read

  pub laid : LaidOut at.sizes at
  laid = subst (λ (s : Sizes). LaidOut s at) (sym out.sizes) out

  pub sized : Few at.sizes
  sized = few here

  used-is : (k kind : ℕ) → used_at (start b) (N b) (L b) k kind ≡ used_in at k kind
  used-is k kind =
      ap₂ (λ (n l : ℕ). used_at (start b) n l k kind) here.nodes here.links
      ∙ ap (λ (begin : Section → ℕ). used_at begin at.sizes.nodes at.sizes.links k kind) (fun_ext (places here laid).stands)

  pub is-section : (kind : ℕ) (line a : List ℕ) {part : Part} → UsedAt part (used_in at (get_or a 0 0) kind) → Between part.from part.to line a → SameSection kind line b a
  unfolding SameSection
  is-section kind line a used is = rw (used-is (get_or a 0 0) kind, ← used.1, ← used.0) is
