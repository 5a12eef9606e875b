-- The queue's invariant holds after every turn, and after every link within a turn.
-- Rests on Follow (one link keeps it) and Turns (how the states come from one another).
use Prim.Native.Nat.{ℕ, zero, suc, ◌+◌, ◌≤◌, ◌<◌}
use native.Mathlib.Decide.{dec_lt}
use native.Mathlib.Omega.{arith}
use mathlib.Core.Path.{◌≡◌, refl, sym, ap, ◌∙◌, subst}
use mathlib.Core.List.{List}
use lib.ListN.{length, take}
use lib.Seq.{take_all}
use lib.Dec.{eqb}
use Rattle.lists.specs.Lists.{times}
use Rattle.lists.proofs.Upto.{count-append}
use Rattle.paper.specs.Map.{N, L, link_from, link_to, in_links, out_links}
use Rattle.paper.specs.Order.{Queue, started, queue_after}
use Rattle.order_theory.specs.Sound.{Sound}
use Rattle.order_theory.specs.Queued.{filled, Queued, front_at, next_link, mid_turn, Turned}
use Rattle.lists.proofs.Count.{count-take-suc}
use Rattle.lists.proofs.Places.{times-place, place-new}
use Rattle.lists.proofs.Extends.{extends_times, extends_take}
use Rattle.order_theory.proofs.Links.{out-times, entry_known, entry-from, entry_new}
use Rattle.order_theory.proofs.Queue.{joined_once, spare, spare_room, started-queued}
use Rattle.order_theory.proofs.Follow.{follow-queued}
use Rattle.order_theory.proofs.Turns.{
  mid_start,
  mid_next,
  mid_end,
  mid_followed,
  mid_joined,
  after_over,
}

-- ---- within a turn that has a front

module _ {b : List ℕ} (s : Sound b) (t : ℕ) (turned : Turned b t) (h : t < length (queue_after b t).joined) where
  -- the front has joined, and was not taken before
  front-joined : 1 ≤ times (front_at b t) (queue_after b t).joined
  unfolding front_at
  front-joined = times-place (queue_after b t).joined t h

  front-new : times (front_at b t) (take t (queue_after b t).joined) ≡ 0
  unfolding front_at
  front-new = place-new (queue_after b t).joined t h (joined_once s turned.queued _)

  -- the links followed by now: those of the nodes taken before, and j of the front's
  mid_times : (j k : ℕ) → k < L b
      → times k (mid_turn b t j).followed ≡ times (link_from b k) (take t (queue_after b t).joined) + times k (take j (out_links b (front_at b t)))
  mid_times j k l =
      omega
      (arith, ap (times k) (mid_followed b t j), count-append (eqb k) (queue_after b t).followed (take j (out_links b (front_at b t))), turned.taken k l)

  module _ (j : ℕ) (l : j < length (out_links b (front_at b t))) where
    -- its next link was not followed
    next-new : times (next_link b t j) (mid_turn b t j).followed ≡ 0
    next-new =
        let from = ap (λ (v : ℕ). times v (take t (queue_after b t).joined)) (entry-from s (front_at b t) j l) in
        omega
        (arith, mid_times j (next_link b t j) (entry_known s (front_at b t) j l), front-new, entry_new s (front_at b t) j l)

    next-source : 1 ≤ times (link_from b (next_link b t j)) (mid_turn b t j).joined
    next-source =
        rw (entry-from s (front_at b t) j l) (omega (arith, front-joined, extends_times (mid_joined b t j) (front_at b t)))

  mid_queued : (j : ℕ) → j ≤ length (out_links b (front_at b t)) → Queued b (mid_turn b t j)
  mid_queued zero l = subst (Queued b) (sym (mid_start b t)) turned.queued
  mid_queued (suc j) l =
      subst (Queued b) (sym (mid_next b t j l))
      (follow-queued s (mid_queued j (omega arith)) (next_link b t j) (entry_known s (front_at b t) j l) (next-new j l) (next-source j l))

  -- at its end, all links of the first t + 1 nodes
  mid_taken : (n : ℕ) → length (out_links b (front_at b t)) ≡ n → (k : ℕ) → k < L b
      → times k (mid_turn b t n).followed ≡ times (link_from b k) (take (suc t) (mid_turn b t n).joined)
  unfolding front_at
  mid_taken n e k l =
      let all = ap (times k) (take_all n (out_links b (front_at b t)) (omega arith)) in
      let same = ap (times (link_from b k)) (extends_take (mid_joined b t n) (suc t) h) in
      let more = count-take-suc (eqb (link_from b k)) (queue_after b t).joined t h in
      omega (arith, mid_times n k l, out-times s (front_at b t) k l)

  turned-next : Turned b (suc t)
  turned-next =
      record {
        queued = subst (Queued b) (mid_end b t h) (mid_queued _ (omega arith));
        taken =
            subst (λ (q : Queue). (k : ℕ) → k < L b → times k q.followed ≡ times (link_from b k) (take (suc t) q.joined))
            (mid_end b t h) (mid_taken _ refl);
      }

-- ---- every turn

-- a turn without a front changes nothing
turned_over : {b : List ℕ} (t : ℕ) → Turned b t → length (queue_after b t).joined ≤ t → Turned b (suc t)
turned_over {b} t turned h =
    record {
      queued = subst (Queued b) (sym (after_over b t h)) turned.queued;
      taken =
          subst (λ (q : Queue). (k : ℕ) → k < L b → times k q.followed ≡ times (link_from b k) (take (suc t) q.joined))
          (sym (after_over b t h)) taken;
    }
  where
    same : take (suc t) (queue_after b t).joined ≡ take t (queue_after b t).joined
    same = take_all (suc t) (queue_after b t).joined (omega arith) ∙ sym (take_all t (queue_after b t).joined h)

    taken : (k : ℕ) → k < L b → times k (queue_after b t).followed ≡ times (link_from b k) (take (suc t) (queue_after b t).joined)
    taken k l = turned.taken k l ∙ ap (times (link_from b k)) (sym same)

pub turned : {b : List ℕ} → Sound b → (t : ℕ) → Turned b t
unfolding queue_after started
turned {b} s zero = record { queued = started-queued s; taken = λ k h. refl }
turned {b} s (suc t) = go (turned s t) (dec_lt t (length (queue_after b t).joined))
  where
    go : Turned b t → Dec (t < length (queue_after b t).joined) → Turned b (suc t)
    go r (yes h) = turned-next s t r h
    go r (no h) = turned_over t r (omega arith)

module _ {b : List ℕ} (s : Sound b) (t : ℕ) where
  -- the invariant, after every turn
  pub queued : Queued b (queue_after b t)
  queued = (turned s t).queued

  module _ (h : t < length (queue_after b t).joined) where
    -- .. and after every link of a turn
    pub queued_mid : (j : ℕ) → j ≤ length (out_links b (front_at b t)) → Queued b (mid_turn b t j)
    queued_mid = mid_queued s t (turned s t) h

    -- the next link within a turn: not followed, its target with an incoming link to spare, and room for it in the queue
    module _ (j : ℕ) (l : j < length (out_links b (front_at b t))) where
      pub mid_new : times (next_link b t j) (mid_turn b t j).followed ≡ 0
      mid_new = next-new s t (turned s t) h j l

      pub mid_spare : filled b (mid_turn b t j).followed (link_to b (next_link b t j)) < length (in_links b (link_to b (next_link b t j)))
      mid_spare = spare s (queued_mid j (omega arith)) (next_link b t j) (entry_known s (front_at b t) j l) mid_new

      pub mid_room : length (mid_turn b t j).joined < N b
      mid_room =
          spare_room s (queued_mid j (omega arith)) (next_link b t j) (entry_known s (front_at b t) j l) mid_new
