-- The queue walk from records on known lines is the same for two areas whose tables read the same: all nodes of its queue are known.
-- Rests on Every and Intervals, and on order_theory (a link goes to a known node).
use Prim.Native.Nat.{ℕ, zero, suc, ◌+◌, ◌<◌}
use mathlib.Core.Path.{◌≡◌, refl, ap, ap₂, ◌∙◌}
use mathlib.Core.Bool.{Bool, true, false, ◌&&◌, ◌||◌, cond}
use mathlib.Core.List.{List, [], ◌∷◌, ◌++◌}
use lib.ListN.{length}
use lib.Dec.{ltb}
use Rattle.lists.specs.Lists.{any, keep, member}
use Rattle.lists.specs.Found.{front, listed}
use Rattle.paper.specs.Map.{N, L, link_to, out_links, out_neighbours}
use Rattle.paper.specs.Area.{K, position, nodes_of}
use Rattle.paper.specs.Intervals.{Interval, Records, records, apart, intervals}
use Rattle.paper.specs.Walk.{
  M,
  next_on,
  start_nodes,
  stands_below,
  Walk,
  going,
  stopped,
  visit,
  step,
  walk_after,
  answer_of,
  walk,
  walk_on,
  line_check,
}
use Rattle.order_theory.specs.Sound.{Sound}
use Rattle.order_theory.proofs.Links.{out-known}
use Rattle.accepted_theory.specs.Every.{Every}
use Rattle.accepted_theory.specs.SameTables.{KnownNode, KnownRecord, KnownRecords, SameTables}
use Rattle.accepted_theory.proofs.Every.{every_append, every-keep, every_map, every-flat_map, every-below, flat_map-every, keep-every}
use Rattle.accepted_theory.proofs.Intervals.{intervals-same, intervals-known}

-- a node's output neighbours are known
pub neighbours-known : {b : List ℕ} → Sound b → (v : ℕ) → Every (KnownNode b) (out_neighbours b v)
unfolding out_neighbours
neighbours-known {b} s v =
    every_map (λ k. k < L b) (KnownNode b) (link_to b) s.target (out_links b v) (every-below (L b) (out_links b v) (out-known b v))

-- a walk whose queue holds known nodes
abbrev KnownWalk : List ℕ → Walk → Type 0
KnownWalk b (going queue counted) = Every (KnownNode b) queue
KnownWalk b (stopped counted) = Unit {0}

module _ {b a c : List ℕ} (t : SameTables b a c) where
  pub next_on-same : (l p : ℕ) → l < K b a → next_on b a l p ≡ next_on b c l p
  unfolding next_on
  next_on-same l p h =
      ap front
      (keep-every (KnownNode b) (λ v. ltb p (position b a v)) (λ v. ltb p (position b c v)) (λ v g. ap (ltb p) (t.positions v g)) (nodes_of b a l)
      (t.nodes_known l h)
      ∙ ap (keep (λ v. ltb p (position b c v))) (t.nodes l h))

  pub next_on-known : (l p : ℕ) → l < K b a → Every (KnownNode b) (listed (next_on b a l p))
  unfolding next_on
  next_on-known l p h =
      head (keep (λ v. ltb p (position b a v)) (nodes_of b a l)) (every-keep (KnownNode b) (λ v. ltb p (position b a v)) (nodes_of b a l) (t.nodes_known l h))
    where
      head : (vs : List ℕ) → Every (KnownNode b) vs → Every (KnownNode b) (listed (front vs))
      head [] k = tt
      head (v ∷ vs) k = (k.0, tt)

  pub stands_below-same : (rs : List Interval) (v : ℕ) → v < N b → stands_below b a rs v ≡ stands_below b c rs v
  unfolding stands_below
  stands_below-same rs v h =
      ap₂ (λ (ls : List ℕ) (p : ℕ). any (λ r. member r.line ls && ltb p r.lowest) rs) (t.lines v h) (t.positions v h)

  pub start_nodes-same : (rs : List Interval) → Every (KnownRecord b a) rs → start_nodes b a rs ≡ start_nodes b c rs
  unfolding start_nodes
  start_nodes-same rs known =
      flat_map-every (KnownRecord b a) (λ r. listed (next_on b a r.line r.highest)) (λ r. listed (next_on b c r.line r.highest))
      (λ r h. ap listed (next_on-same r.line r.highest h))
      rs
      known

  pub start_nodes-known : (rs : List Interval) → Every (KnownRecord b a) rs → Every (KnownNode b) (start_nodes b a rs)
  unfolding start_nodes
  start_nodes-known rs known =
      every-flat_map (KnownRecord b a) (KnownNode b) (λ r. listed (next_on b a r.line r.highest)) (λ r h. next_on-known r.line r.highest h) rs known

module _ {b a c : List ℕ} (t : SameTables b a c) (s : Sound b) (rs : List Interval) where
  -- ---- one step

  visit-same : (v : ℕ) (queue counted : List ℕ) → v < N b → visit b a rs v queue counted ≡ visit b c rs v queue counted
  unfolding visit
  visit-same v queue counted h =
      ap₂
      (λ (p : ℕ) (below : Bool).
      cond (ltb (M rs) p || member v counted) (going queue counted)
      (cond below (stopped (v ∷ counted)) (going (queue ++ out_neighbours b v) (v ∷ counted))))
      (t.positions v h)
      (stands_below-same t rs v h)

  visit-known : (v : ℕ) (queue counted : List ℕ) → Every (KnownNode b) queue → KnownWalk b (visit b a rs v queue counted)
  unfolding visit
  visit-known v queue counted k = go (ltb (M rs) (position b a v) || member v counted) (stands_below b a rs v)
    where
      go : (skip below : Bool)
          → KnownWalk b (cond skip (going queue counted) (cond below (stopped (v ∷ counted)) (going (queue ++ out_neighbours b v) (v ∷ counted))))
      go true below = k
      go false true = tt
      go false false = every_append (KnownNode b) queue (out_neighbours b v) k (neighbours-known s v)

  step_same : (w : Walk) → KnownWalk b w → step b a rs w ≡ step b c rs w
  unfolding step
  step_same (going [] counted) k = refl
  step_same (going (v ∷ queue) counted) k = visit-same v queue counted k.0
  step_same (stopped counted) k = refl

  step-known : (w : Walk) → KnownWalk b w → KnownWalk b (step b a rs w)
  unfolding step
  step-known (going [] counted) k = tt
  step-known (going (v ∷ queue) counted) k = visit-known v queue counted k.1
  step-known (stopped counted) k = tt

  -- ---- all steps

  module _ (known : Every (KnownRecord b a) rs) where
    walk_after-known : (n : ℕ) → KnownWalk b (walk_after b a rs n)
    unfolding walk_after
    walk_after-known zero = start_nodes-known t rs known
    walk_after-known (suc n) = step-known (walk_after b a rs n) (walk_after-known n)

    pub walk_after-same : (n : ℕ) → walk_after b a rs n ≡ walk_after b c rs n
    unfolding walk_after
    walk_after-same zero = ap (λ (queue : List ℕ). going queue []) (start_nodes-same t rs known)
    walk_after-same (suc n) = step_same (walk_after b a rs n) (walk_after-known n) ∙ ap (step b c rs) (walk_after-same n)

    pub walk_same : walk b a rs ≡ walk b c rs
    unfolding walk
    walk_same = ap answer_of (walk_after-same (length rs + L b))

module _ {b a c : List ℕ} (t : SameTables b a c) (s : Sound b) where
  pub walk_on-same : (found : Records) → KnownRecords b a found → walk_on b a found ≡ walk_on b c found
  unfolding walk_on
  walk_on-same (records rs) known = walk_same t s rs known
  walk_on-same apart known = refl

  pub line_check-same : (list : List ℕ) → Every (KnownNode b) list → line_check b a list ≡ line_check b c list
  unfolding line_check
  line_check-same list known =
      walk_on-same (intervals b a list) (intervals-known t list known) ∙ ap (walk_on b c) (intervals-same t list known)
