-- The order: each node once and known, every link into it forward, and nothing changes once the queue is empty.
-- Rests on Queued (the invariant) and lists.First (what `first` finds).
use Prim.Native.Nat.{ℕ, zero, suc, ◌+◌, ◌-◌, ◌≤◌, ◌<◌}
use native.Mathlib.Omega.{arith}
use mathlib.Core.Path.{◌≡◌, sym, ap, ◌∙◌, subst, subst₂}
use mathlib.Core.Bool.{Bool}
use mathlib.Core.List.{List}
use lib.ListN.{length, get_or, take}
use lib.Seq.{take-length}
use lib.Dec.{eqb}
use borrow.Author.Tests.{eqb-true, eq-eqb}
use Rattle.lists.specs.Lists.{times, In, Distinct}
use Rattle.lists.specs.Found.{at}
use Rattle.paper.specs.Map.{N, L, link_from, link_to}
use Rattle.paper.specs.Order.{Queue, queue_after, order, place_in}
use Rattle.paper.specs.Accepted.{GoesBefore}
use Rattle.order_theory.specs.Sound.{Sound}
use Rattle.lists.proofs.Places.{times_in, distinct-times, PlaceBelow, place-times}
use Rattle.lists.proofs.First.{first_at, first_found}
use Rattle.order_theory.proofs.Queue.{joined_once, joined-known, room}
use Rattle.order_theory.proofs.Turns.{after_over}
use Rattle.order_theory.proofs.Queued.{queued}

-- ---- each node once, and known

module _ {b : List ℕ} (s : Sound b) where
  pub ordered-times : (v : ℕ) → times v (order b) ≤ 1
  unfolding order
  ordered-times v = joined_once s (queued s (N b)) v

  pub ordered-once : Distinct (order b)
  ordered-once = distinct-times (order b) ordered-times

  pub ordered-known : (v : ℕ) → In v (order b) → v < N b
  unfolding order
  ordered-known v h = joined-known s (queued s (N b)) v h

  pub ordered-room : length (order b) ≤ N b
  unfolding order
  ordered-room = room s (queued s (N b))

-- ---- nothing changes once the queue is empty

module _ (b : List ℕ) (t : ℕ) (over : length (queue_after b t).joined ≤ t) where
  pub stable : (n : ℕ) → queue_after b (n + t) ≡ queue_after b t
  stable zero = ap (queue_after b) (omega arith)
  stable (suc n) =
      ap (queue_after b) (omega arith)
      ∙ after_over b (n + t) (subst (λ (q : Queue). length q.joined ≤ n + t) (sym (stable n)) (omega arith))
      ∙ stable n

  pub settled : (n : ℕ) → t ≤ n → queue_after b n ≡ queue_after b t
  settled n h = ap (queue_after b) (omega arith) ∙ stable (n - t)

  pub order_settled : t ≤ N b → order b ≡ (queue_after b t).joined
  unfolding order
  order_settled h = ap (λ (q : Queue). q.joined) (settled (N b) h)

-- N turns are enough
pub enough : {b : List ℕ} → Sound b → (n : ℕ) → N b ≤ n → queue_after b n ≡ queue_after b (N b)
enough {b} s n h = settled b (N b) (room s (queued s (N b))) n h

-- .. so where as many turns were made as nodes have joined, the order is what has joined
pub order_complete : {b : List ℕ} → Sound b → (t : ℕ) → length (queue_after b t).joined ≡ t → order b ≡ (queue_after b t).joined
order_complete {b} s t done = order_settled b t (omega arith) (omega (arith, room s (queued s t)))

-- ---- places

-- where a node stands, if it stands before place n
pub record PlacedBefore (n v : ℕ) (xs : List ℕ) : Type 0 where
  pub place : ℕ
  pub found : place_in xs v ≡ at place
  pub before : place < n
  pub holds : get_or xs place 0 ≡ v
  pub inside : place < length xs

pub placed-before : (n v : ℕ) (xs : List ℕ) → 1 ≤ times v (take n xs) → PlacedBefore n v xs
unfolding place_in
placed-before n v xs h = go (place-times n v xs h)
  where
    test : ℕ → Bool
    test i = eqb (get_or xs i 0) v

    go : PlaceBelow n v xs → PlacedBefore n v xs
    go p =
        let f = first_found test (length xs) p.place p.inside (eq-eqb _ v p.holds) in
        let r = first_at test (length xs) f.place f.found in
        record {
          place = f.place;
          found = f.found;
          before = omega (arith, p.before, f.early);
          holds = eqb-true _ v r.passes;
          inside = r.known;
        }

pub placed : (v : ℕ) (xs : List ℕ) → In v xs → PlacedBefore (length xs) v xs
placed v xs h = placed-before (length xs) v xs (rw take-length (times_in v xs h))

-- ---- links go forward

pub order-forward : {b : List ℕ} → Sound b → (k : ℕ) → k < L b → In (link_to b k) (order b)
    → GoesBefore (place_in (order b) (link_from b k)) (place_in (order b) (link_to b k))
unfolding order
order-forward {b} s k h there =
    let target = placed (link_to b k) (order b) there in
    let source = placed-before target.place (link_from b k) (order b) ((queued s (N b)).behind k h target.place target.inside target.holds) in
    subst₂ GoesBefore (sym source.found) (sym target.found) source.before
