-- How many nodes ever enter the queue of 01's walk: one for a record at most, and one for each link of a node that was counted.
-- Rests on order_theory.Links.
use Prim.Native.Nat.{ℕ, ◌≤◌, ◌<◌}
use native.Mathlib.Decide.{dec_lt}
use native.Mathlib.Omega.{arith}
use mathlib.Core.Path.{◌≡◌, refl}
use mathlib.Core.List.{List, [], ◌∷◌, flat_map}
use lib.ListN.{length, length-append}
use lib.Dec.{eqb}
use Rattle.lists.specs.Lists.{one, times}
use Rattle.lists.specs.Found.{Found, absent, at, listed}
use Rattle.lists.specs.Bounds.{Below}
use Rattle.lists.proofs.Upto.{count-append}
use Rattle.lists.proofs.Count.{times_nowhere}
use Rattle.lists.proofs.Compare.{fits}
use Rattle.paper.specs.Map.{L, link_from, out_links}
use Rattle.paper.specs.Intervals.{Interval}
use Rattle.paper.specs.Walk.{next_on, start_nodes}
use Rattle.order_theory.specs.Sound.{Sound}
use Rattle.order_theory.proofs.Links.{out-known, out-times}

pub starts-few : (b a : List ℕ) (rs : List Interval) → length (start_nodes b a rs) ≤ length rs
unfolding start_nodes flat_map
starts-few b a [] = omega arith
starts-few b a (r ∷ rs) =
    omega (arith, length-append (listed start) (start_nodes b a rs), few start, starts-few b a rs)
  where
    start : Found
    start = next_on b a r.line r.highest

    few : (f : Found) → length (listed f) ≤ 1
    few absent = omega arith
    few (at v) = omega arith

-- where the part of x holds n exactly if x is y, n stands in all parts as often as y among their numbers
times-flat_map : (f : ℕ → List ℕ) (n y : ℕ) → ((x : ℕ) → times n (f x) ≡ one (eqb y x)) → (xs : List ℕ) → times n (flat_map f xs) ≡ times y xs
unfolding flat_map
times-flat_map f n y h [] = refl
times-flat_map f n y h (x ∷ xs) =
    omega (arith, count-append (eqb n) (f x) (flat_map f xs), h x, times-flat_map f n y h xs)

-- the links of nodes without repeats are no more than there are
pub links-few : {b : List ℕ} → Sound b → (counted : List ℕ) → ((v : ℕ) → times v counted ≤ 1) → length (flat_map (out_links b) counted) ≤ L b
links-few {b} s counted once = fits (L b) (flat_map (out_links b) counted) known few
  where
    known : Below (L b) (flat_map (out_links b) counted)
    known k h = times_nowhere (out_links b) k (λ v. out-known b v k h) counted

    few : (k : ℕ) → times k (flat_map (out_links b) counted) ≤ 1
    few k = go (dec_lt k (L b))
      where
        go : Dec (k < L b) → times k (flat_map (out_links b) counted) ≤ 1
        go (yes l) =
            omega (arith, times-flat_map (out_links b) k (link_from b k) (λ v. out-times s v k l) counted, once (link_from b k))
        go (no l) = omega (arith, known k (omega arith))
