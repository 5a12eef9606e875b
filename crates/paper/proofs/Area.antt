-- The area's length in 01's own sum.
-- Rests on Area.
use Prim.Native.Nat.{ℕ, ◌+◌, ◌*◌, ◌≤◌}
use native.Mathlib.Omega.{arith}
use mathlib.Core.Path.{◌≡◌}
use mathlib.Core.List.{List}
use Rattle.paper.specs.Map.{N, L, P}
use Rattle.paper.specs.Area.{size, W}

-- "W = 7+10N+9L+2P"
pub W-sum : (b : List ℕ) → W b ≡ 7 + 10 * N b + 9 * L b + 2 * P b
unfolding W size
W-sum b = omega arith

-- "at most 31,751"
pub W-most : (b : List ℕ) → N b ≤ 512 → L b ≤ 2048 → P b ≤ 4096 → W b ≤ 31751
W-most b n l p = omega (arith, W-sum b)
