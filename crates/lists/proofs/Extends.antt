-- A list that begins with another has its entries where the other has them.
-- Rests on lists.Upto.
use Prim.Native.Nat.{ℕ, ◌≤◌}
use native.Mathlib.Omega.{arith}
use mathlib.Core.Path.{◌≡◌, ap, ◌∙◌}
use mathlib.Core.List.{List}
use lib.ListN.{length, take, length-append}
use lib.Seq.{take-append-le}
use lib.Dec.{eqb}
use Rattle.lists.specs.Lists.{times}
use Rattle.lists.proofs.Upto.{count-append}
use Rattle.lists.specs.Bounds.{Extends}

module _ {xs ys : List ℕ} (e : Extends xs ys) where
  pub extends_times : (x : ℕ) → times x xs ≤ times x ys
  extends_times x = omega (arith, ap (times x) e.whole, count-append (eqb x) xs e.rest)

  pub extends_take : (n : ℕ) → n ≤ length xs → take n ys ≡ take n xs
  extends_take n h = ap (take n) e.whole ∙ take-append-le n xs e.rest h

  pub extends_length : length xs ≤ length ys
  extends_length = omega (arith, ap length e.whole, length-append xs e.rest)
