-- A mark as it is read, and after a word was written: at the port itself, at another port, and outside the marks.
-- Rests on lib.Seq and tables' Within.
use Prim.Native.Nat.{ℕ, ◌+◌, ◌<◌}
use native.Mathlib.Omega.{arith}
use mathlib.Core.Path.{◌≡◌, ap, ◌∙◌}
use mathlib.Core.List.{List}
use lib.Dec.{eqb}
use lib.ListN.{length, get_or, set}
use lib.Seq.{get_or-set_same, get_or-set_other}
use Rattle.lists.proofs.Sections.{Apart}
use Rattle.tables.specs.Within.{Within}
use Rattle.port_conflict.specs.Marks.{marked}

pub mark-read : (a : List ℕ) (marks q : ℕ) {w : ℕ} → w ≡ get_or a (marks + q) 0 → eqb w 1 ≡ marked a marks q
unfolding marked
mark-read a marks q e = ap (λ (w : ℕ). eqb w 1) e

module _ (a : List ℕ) (marks x v q : ℕ) where
  pub marked-here : q ≡ x → marks + x < length a → marked (set a (marks + x) v) marks q ≡ eqb v 1
  unfolding marked
  marked-here e h =
      ap (λ (w : ℕ). eqb w 1)
      (ap (λ (j : ℕ). get_or (set a (marks + x) v) (marks + j) 0) e ∙ get_or-set_same a (marks + x) v 0 h)

  pub marked_elsewhere : (q ≡ x → ⊥) → marked (set a (marks + x) v) marks q ≡ marked a marks q
  unfolding marked
  marked_elsewhere ne =
      ap (λ (w : ℕ). eqb w 1) (get_or-set_other a (marks + x) (marks + q) v 0 (λ e. ne (omega (arith, e))))

pub marked-outside : {at n : ℕ} {a m : List ℕ} → Within at n a m → (marks q : ℕ) → Apart (marks + q) at n → marked m marks q ≡ marked a marks q
unfolding marked
marked-outside kept marks q apart = ap (λ (w : ℕ). eqb w 1) (kept.same (marks + q) apart)
