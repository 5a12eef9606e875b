-- The frontier's invariant holds after every node of the order.
-- Rests on Placing and on the order: each node once, sources before targets.
use Prim.Native.Nat.{ℕ, zero, suc, ◌≤◌, ◌<◌}
use native.Mathlib.Decide.{dec_lt}
use native.Mathlib.Omega.{arith}
use mathlib.Core.Path.{refl, sym, ap, subst, subst₂}
use mathlib.Core.List.Memᴰ
use mathlib.Core.List.{List, []}
use lib.ListN.{length, get_or, take}
use lib.Seq.{take-suc, take-take, take-length}
use lib.Dec.{eqb}
use Rattle.lists.specs.Lists.{upto, times}
use Rattle.lists.proofs.Count.{times-take}
use Rattle.lists.proofs.Places.{place-new, PlaceBelow, place-times}
use Rattle.paper.specs.Map.{N, L, link_from, link_to, source_port}
use Rattle.paper.specs.Order.{order}
use Rattle.paper.specs.Lines.{frontier_after}
use Rattle.order_theory.specs.Sound.{Sound}
use Rattle.order_theory.proofs.Queued.{queued}
use Rattle.order_theory.proofs.Order.{ordered-times}
use Rattle.lines_theory.specs.Lined.{every, Lined, Next}
use Rattle.lists.proofs.Weight.{weight-none}
use Rattle.lines_theory.proofs.Placing.{place-grows, grown_lined}

nothing_lined : (b : List ℕ) → Lined b [] (record { ends = []; placed = []; count = 0 })
nothing_lined b =
    record {
      nodes = refl;
      balance =
          λ p. omega
          (arith, weight-none (λ k. eqb p (source_port b k)) (link_to b) (upto (L b)), weight-none (λ k. eqb p (source_port b k)) (link_from b) (upto (L b)));
      once = λ l. omega arith;
      standing = λ e m. absurd (Memᴰ.not-nil m);
      listed = λ x m. absurd (Memᴰ.not-nil m);
      used = λ l h. absurd (omega arith);
      rises = λ l. tt;
      adjacent = λ u w h. absurd (omega arith);
      entries = omega (arith, weight-none every (link_to b) (upto (L b)));
      few = omega arith;
    }

module _ {b : List ℕ} (s : Sound b) where
  -- the source of a link stands before its target
  sources-first : (t k : ℕ) → k < L b → times (link_to b k) (take (suc t) (order b)) ≤ times (link_from b k) (take t (order b))
  unfolding order
  sources-first t k h = go (dec_lt 0 (times (link_to b k) (take (suc t) (order b))))
    where
      shorter : (j : ℕ) → j ≤ t → times (link_from b k) (take j (order b)) ≤ times (link_from b k) (take t (order b))
      shorter j l =
          omega (arith, times-take (link_from b k) j (take t (order b)), ap (times (link_from b k)) (take-take j t (order b) l))

      found : PlaceBelow (suc t) (link_to b k) (order b) → 1 ≤ times (link_from b k) (take t (order b))
      found p =
          omega
          (arith, (queued s (N b)).behind k h p.place p.inside p.holds, shorter p.place (omega (arith, p.before)))

      go : Dec (0 < times (link_to b k) (take (suc t) (order b))) → times (link_to b k) (take (suc t) (order b)) ≤ times (link_from b k) (take t (order b))
      go (yes l) =
          omega
          (arith, found (place-times (suc t) (link_to b k) (order b) l), times-take (link_to b k) (suc t) (order b), ordered-times s (link_to b k))
      go (no l) = omega arith

  -- each node of the order may come next when its turn comes
  pub turn-next : (t : ℕ) → t < length (order b) → Next b (take t (order b)) (get_or (order b) t 0)
  turn-next t h =
      record {
        new = place-new (order b) t h (ordered-times s (get_or (order b) t 0));
        ready = λ k l. rw (← take-suc (order b) t 0 h) (sources-first t k l);
      }

  pub lined : (t : ℕ) → t ≤ length (order b) → Lined b (take t (order b)) (frontier_after b (order b) t)
  unfolding frontier_after
  lined zero h = nothing_lined b
  lined (suc t) h =
      subst₂ (Lined b) (sym (take-suc (order b) t 0 h)) (sym (place-grows b (get_or (order b) t 0) (frontier_after b (order b) t)))
      (grown_lined s (lined t (omega arith)) (turn-next t h))

  -- .. and after all of them
  pub all_lined : Lined b (order b) (frontier_after b (order b) (length (order b)))
  all_lined =
      subst (λ (us : List ℕ). Lined b us (frontier_after b (order b) (length (order b)))) (take-length (order b))
      (lined (length (order b)) (omega arith))
