-- What a start list says of each start: it is at least its number, and leaves an entry for each one after it.
-- Rests on the definition.
use Prim.Native.Nat.{ℕ, zero, suc, ◌+◌, ◌-◌, ◌≤◌}
use native.Mathlib.Omega.{arith}
use mathlib.Core.Path.{◌≡◌, ap}
use Rattle.paper.specs.Accepted.{Starts}

module _ {s : ℕ → ℕ} {n end : ℕ} (starts : Starts s n end) where
  pub start-least : (x : ℕ) → x ≤ n → x ≤ s x
  start-least zero h = omega arith
  start-least (suc x) h = omega (arith, start-least x (omega arith), starts.rises x h)

  most : (d x : ℕ) → x + d ≡ n → s x + d ≤ end
  most zero x e = omega (arith, ap s (same x e), starts.ends)
    where
      same : (x : ℕ) → x + zero ≡ n → x ≡ n
      same x e = omega arith
  most (suc d) x e = omega (arith, most d (suc x) (omega arith), starts.rises x (omega arith))

  pub start-most : (x : ℕ) → x ≤ n → s x + (n - x) ≤ end
  start-most x h = most (n - x) x (omega arith)
