-- All nodes are ordered exactly if no directed path comes back to where it starts.
-- Rests on Order, and on Queued: a node that is not ordered has a link from another one.
use Prim.Native.Nat.{ℕ, zero, suc, ◌≤◌, ◌<◌}
use native.Mathlib.Decide.{dec_lt}
use native.Mathlib.Omega.{arith}
use mathlib.Core.Path.{◌≡◌, refl, sym, ap, subst, subst₂}
use mathlib.Core.Logic.{◌↔◌, inl, inr}
use mathlib.Core.Bool.{Bool}
use mathlib.Core.List.{List, [], ◌∷◌}
use lib.ListN.{length}
use lib.Seq.{take_all}
use lib.Dec.{eqb}
use borrow.Author.Tests.{eqb-true}
use Rattle.lists.specs.Lists.{upto, count, times, In}
use Rattle.lists.specs.Found.{Found, absent, at}
use Rattle.paper.specs.Map.{N, L, link_from, link_to, in_links}
use Rattle.paper.specs.Order.{queue_after, order, place_in}
use Rattle.paper.specs.Accepted.{GoesBefore}
use Rattle.paper.specs.Plain.{Linked, DirectedPath, link, onward}
use Rattle.lists.specs.Bounds.{Below}
use Rattle.order_theory.specs.Sound.{Sound}
use Rattle.order_theory.specs.Queued.{filled}
use Rattle.order_theory.specs.Cycle.{AllOrdered, NoCycle}
use Rattle.lists.proofs.Count.{one_eq, times-upto, times_past}
use Rattle.lists.proofs.Compare.{Missed, missed, below_more, once_more, fits}
use Rattle.lists.proofs.Places.{times_in_back}
use Rattle.order_theory.proofs.Links.{in_count}
use Rattle.order_theory.proofs.Queue.{room, filled-most}
use Rattle.order_theory.proofs.Queued.{turned, queued}
use Rattle.order_theory.proofs.Order.{order-forward}

-- ---- where all are ordered, a path goes forward

before_trans : (x y z : Found) → GoesBefore x y → GoesBefore y z → GoesBefore x z
before_trans absent y z p q = p
before_trans (at i) absent z p q = absurd p
before_trans (at i) (at j) absent p q = q
before_trans (at i) (at j) (at k) p q = omega arith

before_irrefl : (x : Found) → GoesBefore x x → ⊥
before_irrefl absent p = p
before_irrefl (at i) p = omega arith

module _ {b : List ℕ} (s : Sound b) (all : AllOrdered b) where
  link-forward : {u v : ℕ} → Linked b u v → GoesBefore (place_in (order b) u) (place_in (order b) v)
  link-forward r =
      subst₂ (λ (u v : ℕ). GoesBefore (place_in (order b) u) (place_in (order b) v)) r.source r.target
      (order-forward s r.link r.known (all (link_to b r.link) (s.target r.link r.known)))

  path-forward : {u v : ℕ} → DirectedPath b u v → GoesBefore (place_in (order b) u) (place_in (order b) v)
  path-forward (link r) = link-forward r
  path-forward (onward {u} {v} {w} r p) =
      before_trans (place_in (order b) u) (place_in (order b) v) (place_in (order b) w) (link-forward r) (path-forward p)

  no_cycle : NoCycle b
  no_cycle v p = before_irrefl (place_in (order b) v) (path-forward p)

-- ---- a node that is not ordered has a link from another one

pub record LeftOut (b : List ℕ) (w : ℕ) : Type 0 where
  pub node : ℕ
  pub linked : Linked b node w
  pub known : node < N b
  pub out : times node (order b) ≡ 0

pub left_out : {b : List ℕ} → Sound b → (w : ℕ) → w < N b → times w (order b) ≡ 0 → LeftOut b w
unfolding order
left_out {b} s w h out = go (missed to (L b) followed (upto (L b)) (λ k l. times_past k (L b) l) unfilled)
  where
    followed : List ℕ
    followed = (queue_after b (N b)).followed

    to : ℕ → Bool
    to k = eqb (link_to b k) w

    -- it has not joined, so not all links to it were followed
    unfilled : filled b followed w < count to (upto (L b))
    unfilled = go (dec_lt (filled b followed w) (count to (upto (L b))))
      where
        go : Dec (filled b followed w < count to (upto (L b))) → filled b followed w < count to (upto (L b))
        go (yes l) = l
        go (no l) =
            let most = filled-most s (queued s (N b)) w in
            let full = one_eq (filled b followed w) (length (in_links b w)) (omega (arith, in_count s w)) in
            absurd (omega (arith, (queued s (N b)).joins w h))

    -- the source of a link that was not followed has not joined
    go : Missed to (L b) followed (upto (L b)) → LeftOut b w
    go m =
        let k = m.which in
        let whole = take_all (N b) (order b) (room s (queued s (N b))) in
        record {
          node = link_from b k;
          linked = record { link = k; known = m.known; source = refl; target = eqb-true (link_to b k) w m.passes };
          known = s.source k m.known;
          out =
              omega
              (arith, m.rarer, times-upto k (L b) m.known, (turned s (N b)).taken k m.known, ap (times (link_from b k)) whole);
        }

-- ---- walking back from it never ends

-- n + 1 nodes, each with a path to all after it, the first not ordered
record Trail (b : List ℕ) (n : ℕ) : Type 0 where
  head : ℕ
  rest : List ℕ
  long : length rest ≡ n
  known : Below (N b) (head ∷ rest)
  once : (v : ℕ) → times v (head ∷ rest) ≤ 1
  out : times head (order b) ≡ 0
  ahead : (v : ℕ) → In v rest → DirectedPath b head v

module _ {b : List ℕ} (s : Sound b) (none : NoCycle b) where
  -- one node further back, which is none of those before
  further : {n : ℕ} → Trail b n → Trail b (suc n)
  further {n} t = go (left_out s t.head (head_known (dec_lt t.head (N b))) t.out)
    where
      head_known : Dec (t.head < N b) → t.head < N b
      head_known (yes l) = l
      head_known (no l) = absurd (omega (arith, t.known t.head (omega arith), one_eq t.head t.head refl))

      go : LeftOut b t.head → Trail b (suc n)
      go o =
          record {
            head = o.node;
            rest = t.head ∷ t.rest;
            long = omega (arith, t.long);
            known = below_more o.node (N b) (t.head ∷ t.rest) o.known t.known;
            once = once_more o.node (t.head ∷ t.rest) (new (dec_lt 0 (times o.node (t.head ∷ t.rest)))) t.once;
            out = o.out;
            ahead = ahead;
          }
        where
          ahead : (v : ℕ) → In v (t.head ∷ t.rest) → DirectedPath b o.node v
          ahead v (inl e) = link (subst (Linked b o.node) (sym e) o.linked)
          ahead v (inr i) = onward o.linked (t.ahead v i)

          new : Dec (0 < times o.node (t.head ∷ t.rest)) → times o.node (t.head ∷ t.rest) ≡ 0
          new (yes l) = absurd (none o.node (ahead o.node (times_in_back o.node (t.head ∷ t.rest) l)))
          new (no l) = omega arith

  trail : (v : ℕ) → v < N b → times v (order b) ≡ 0 → (n : ℕ) → Trail b n
  trail v h out zero =
      record {
        head = v;
        rest = [];
        long = refl;
        known = below_more v (N b) [] h (λ k l. refl);
        once = once_more v [] refl (λ k. omega arith);
        out = out;
        ahead = λ w i. absurd i;
      }
  trail v h out (suc n) = further (trail v h out n)

  -- a trail of more nodes than there are
  ordered : AllOrdered b
  ordered v h = go (dec_lt 0 (times v (order b)))
    where
      no_room : Trail b (N b) → ⊥
      no_room t = omega (arith, fits (N b) (t.head ∷ t.rest) t.known t.once, t.long)

      go : Dec (0 < times v (order b)) → In v (order b)
      go (yes l) = times_in_back v (order b) l
      go (no l) = absurd (no_room (trail v h (omega arith) (N b)))

pub all-ordered : {b : List ℕ} → Sound b → AllOrdered b ↔ NoCycle b
all-ordered s = (no_cycle s, ordered s)
