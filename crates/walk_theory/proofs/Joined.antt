-- The nodes that have joined are known and stand once each, after every turn and within one: there is room for them in N words.
-- Rests on Join, lists.Compare and order_theory.Links (a known link leads to a known node).
use Prim.Native.Nat.{ℕ, zero, suc, ◌≤◌, ◌<◌}
use native.Mathlib.Decide.{ℕ_discrete}
use native.Mathlib.Omega.{arith}
use mathlib.Core.Path.{◌≡◌, refl, ap, subst}
use mathlib.Core.Bool.{Bool, true, false, cond}
use mathlib.Core.List.{List, [], ◌∷◌, ◌++◌}
use lib.ListN.{length, get_or}
use lib.Dec.{eqb, ltb}
use Rattle.lists.specs.Lists.{one, member, times, In}
use Rattle.lists.specs.Bounds.{Below}
use Rattle.lists.proofs.Upto.{count-append}
use Rattle.lists.proofs.Compare.{below_more, once_more, fits}
use Rattle.lists.proofs.Places.{times_in_back, place-known}
use Rattle.lists.proofs.Members.{times-member, member_below, below_members}
use Rattle.paper.specs.Map.{N, link_to, out_links, out_neighbours}
use Rattle.paper.specs.Area.{position}
use Rattle.paper.specs.Intervals.{Interval}
use Rattle.paper.specs.Walk.{M, start_nodes, stands_below}
use Rattle.order_theory.specs.Sound.{Sound}
use Rattle.order_theory.proofs.Links.{out-known}
use Rattle.walk_theory.specs.Marked.{join, join_all, Marked, going, stopped, visit_marked, turn_marked, marked_after}
use Rattle.walk_theory.specs.Joined.{Joined}
use Rattle.walk_theory.proofs.Join.{join_old, join-new, length-join-new}

-- a list of known nodes, by counts
pub below_in : (n : ℕ) (xs : List ℕ) → ((v : ℕ) → In v xs → v < n) → Below n xs
below_in n xs h k l = go (ℕ_discrete (times k xs) 0)
  where
    go : Dec (times k xs ≡ 0) → times k xs ≡ 0
    go (yes e) = e
    go (no ne) = absurd (omega (arith, h k (times_in_back k xs (omega arith))))

pub neighbours-known : {b : List ℕ} → Sound b → (v : ℕ) → Below (N b) (out_neighbours b v)
unfolding out_neighbours
neighbours-known {b} s v = below_members (link_to b) (N b) (out_links b v) (λ k m. s.target k (member_below (out-known b v) m))

-- ---- what follows

module _ {n : ℕ} {joined : List ℕ} (j : Joined n joined) where
  pub joined-fit : length joined ≤ n
  joined-fit = fits n joined j.known j.once

  pub joined-known : (i : ℕ) → i < length joined → get_or joined i 0 < n
  joined-known i h = place-known n joined i j.known h

-- ---- joining keeps it

pub nobody_joined : (n : ℕ) → Joined n []
nobody_joined n = record { once = λ v. omega arith; known = λ k h. refl }

module _ {n : ℕ} {joined : List ℕ} (j : Joined n joined) (v : ℕ) (h : v < n) where
  more_joined : member v joined ≡ false → Joined n (joined ++ (v ∷ []))
  more_joined e =
      record {
        once = λ u. omega (arith, count-append (eqb u) joined (v ∷ []), once_more v joined new j.once u);
        known = λ u l. omega (arith, count-append (eqb u) joined (v ∷ []), below_more v n joined h j.known u l);
      }
    where
      new : times v joined ≡ 0
      new = omega (arith, times-member v joined (j.once v), ap one e)

  pub join-joined : Joined n (join joined v)
  join-joined = go (member v joined) refl
    where
      go : (t : Bool) → member v joined ≡ t → Joined n (join joined v)
      go true e = rw (join_old joined v e) j
      go false e = rw (join-new joined v e) (more_joined e)

  -- a known node that has not joined finds room
  pub join-room : member v joined ≡ false → length joined < n
  join-room e = omega (arith, joined-fit join-joined, length-join-new joined v e)

pub join_all-joined : {n : ℕ} {joined : List ℕ} → Joined n joined → (xs : List ℕ) → Below n xs → Joined n (join_all joined xs)
unfolding join_all
join_all-joined j [] below = j
join_all-joined {n = n} {joined = joined} j (x ∷ xs) below =
    join_all-joined {joined = join joined x} (join-joined j x (place-known n (x ∷ xs) 0 below (omega arith))) xs (λ k l. omega (arith, below k l))

-- ---- turn by turn

-- those who have joined are known, and each turn counts at most one
abbrev Kept : ℕ → ℕ → Marked → Type 0
Kept n t (going joined counted) = Joined n joined × (counted ≤ t)
Kept n t (stopped counted) = counted ≤ t

module _ {b : List ℕ} (s : Sound b) (a : List ℕ) (rs : List Interval) where
  turn-kept : (t : ℕ) (m : Marked) → Kept (N b) t m → Kept (N b) (suc t) (turn_marked b a rs t m)
  unfolding turn_marked visit_marked
  turn-kept t (stopped counted) k = omega arith
  turn-kept t (going joined counted) k = turned (ltb t (length joined))
    where
      v : ℕ
      v = get_or joined t 0

      below : (test : Bool) → Kept (N b) (suc t) (cond test (stopped (suc counted)) (going (join_all joined (out_neighbours b v)) (suc counted)))
      below true = omega arith
      below false = (join_all-joined k.0 (out_neighbours b v) (neighbours-known s v), omega arith)

      above : (test : Bool) → Kept (N b) (suc t)
          (cond test (going joined counted) (cond (stands_below b a rs v) (stopped (suc counted)) (going (join_all joined (out_neighbours b v)) (suc counted))))
      above true = (k.0, omega arith)
      above false = below (stands_below b a rs v)

      turned : (test : Bool) → Kept (N b) (suc t) (cond test (visit_marked b a rs v joined counted) (going joined counted))
      turned true = above (ltb (M rs) (position b a v))
      turned false = (k.0, omega arith)

  module _ (known : (v : ℕ) → In v (start_nodes b a rs) → v < N b) where
    kept : (t : ℕ) → Kept (N b) t (marked_after b a rs t)
    unfolding marked_after
    kept zero = (join_all-joined (nobody_joined (N b)) (start_nodes b a rs) (below_in (N b) (start_nodes b a rs) known), omega arith)
    kept (suc t) = turn-kept t (marked_after b a rs t) (kept t)

    pub going_joined : (t : ℕ) {joined : List ℕ} {counted : ℕ} → marked_after b a rs t ≡ going joined counted → Joined (N b) joined
    going_joined t e = (subst (Kept (N b) t) e (kept t)).0

    pub going_counted : (t : ℕ) {joined : List ℕ} {counted : ℕ} → marked_after b a rs t ≡ going joined counted → counted ≤ t
    going_counted t e = (subst (Kept (N b) t) e (kept t)).1

    pub stopped_counted : (t : ℕ) {counted : ℕ} → marked_after b a rs t ≡ stopped counted → counted ≤ t
    stopped_counted t e = subst (Kept (N b) t) e (kept t)
