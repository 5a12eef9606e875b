-- The first bad entry that a loop meets is the one that its refusal names; a loop that meets none passes.
-- Rests on lists.First.
use Prim.Native.Nat.{ℕ, ◌≤◌, ◌<◌}
use native.Mathlib.Omega.{arith}
use mathlib.Core.Path.{◌≡◌, sym, ap, ◌∙◌}
use mathlib.Core.Bool.{Bool, true, false}
use Rattle.lists.specs.Found.{first}
use Rattle.lists.proofs.First.{first-is, first-none}
use Rattle.paper.specs.Refusals.{passed, refusal, refuse}

module _ (number : ℕ) (bad : ℕ → Bool) (n : ℕ) {v : ℕ} (fine : (u : ℕ) → u < v → bad u ≡ false) where
  pub first_bad : v < n → {r : Bool} → r ≡ bad v → r ≡ true → refusal number v ≡ refuse number (first bad n)
  unfolding refuse
  first_bad h says e = ap (refuse number) (sym (first-is bad n v (record { known = h; passes = sym says ∙ e; fail = fine })))

  pub none_bad : n ≤ v → passed ≡ refuse number (first bad n)
  unfolding refuse
  none_bad h = ap (refuse number) (sym (first-none bad n (λ u g. fine u (omega arith))))
