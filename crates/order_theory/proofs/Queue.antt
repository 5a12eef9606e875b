-- The queue's invariant: what follows from it, and that it holds at the start.
-- Rests on Links and the laws on lists compared by counts.
use Prim.Native.Nat.{ℕ, ◌≤◌, ◌<◌}
use native.Mathlib.Decide.{dec_lt}
use native.Mathlib.Omega.{arith}
use mathlib.Core.Path.{◌≡◌, refl, ap, ◌∙◌}
use mathlib.Core.Logic.{◌↔◌}
use mathlib.Core.Bool.{Bool}
use mathlib.Core.List.{List, [], ◌∷◌}
use lib.ListN.{length, get_or}
use lib.Dec.{eqb}
use Rattle.lists.specs.Lists.{upto, one, keep, times, In}
use Rattle.paper.specs.Map.{N, L, link_to, in_links}
use Rattle.paper.specs.Order.{Queue, started}
use Rattle.lists.specs.Bounds.{Below}
use Rattle.order_theory.specs.Sound.{Sound}
use Rattle.order_theory.specs.Queued.{filled, Queued}
use Rattle.lists.proofs.Count.{
  one_eq,
  one_ne,
  one-small,
  one_eq_back,
  eqb_sym,
  times-keep-upto,
  times-keep_past,
  times-upto,
}
use Rattle.lists.proofs.Compare.{fewer, fits, below_more, once_more}
use Rattle.lists.proofs.Places.{times_in, times-place}
use Rattle.order_theory.proofs.Links.{in_count}

-- ---- links followed at most once

module _ {b : List ℕ} (s : Sound b) (links : List ℕ) (known : Below (L b) links) (once : (k : ℕ) → times k links ≤ 1) where
  -- no more of them lead to w than w has incoming links
  filled_within : (w : ℕ) → filled b links w ≤ length (in_links b w)
  filled_within w =
      omega
      (arith, in_count s w, fewer (λ j. eqb (link_to b j) w) (L b) links (upto (L b)) known (λ k l. omega (arith, once k, times-upto k (L b) l)))

-- .. and one less as long as a link to w is not followed
pub filled-below : {b : List ℕ} → Sound b → (links : List ℕ) → Below (L b) links → ((k : ℕ) → times k links ≤ 1)
    → (k : ℕ) → k < L b → times k links ≡ 0 → filled b links (link_to b k) < length (in_links b (link_to b k))
filled-below {b} s links known once k h new =
    omega
    (arith, filled_within s (k ∷ links) (below_more k (L b) links h known) (once_more k links new once) (link_to b k), one_eq (link_to b k) (link_to b k) refl)

-- ---- what the invariant says

module _ {b : List ℕ} (s : Sound b) {q : Queue} (i : Queued b q) where
  pub joined_once : (v : ℕ) → times v q.joined ≤ 1
  joined_once v = go (dec_lt v (N b))
    where
      go : Dec (v < N b) → times v q.joined ≤ 1
      go (yes l) = omega (arith, i.joins v l, one-small (eqb (filled b q.followed v) (length (in_links b v))))
      go (no l) = omega (arith, i.joined_known v (omega arith))

  pub joined-known : (v : ℕ) → In v q.joined → v < N b
  joined-known v h = go (dec_lt v (N b))
    where
      go : Dec (v < N b) → v < N b
      go (yes l) = l
      go (no l) = absurd (omega (arith, times_in v q.joined h, i.joined_known v (omega arith)))

  -- the queue holds no more nodes than there are
  pub room : length q.joined ≤ N b
  room = fits (N b) q.joined i.joined_known joined_once

  -- as long as a node has not joined there is room for it
  pub room_for : (w : ℕ) → w < N b → times w q.joined ≡ 0 → length q.joined < N b
  room_for w h new =
      fits (N b) (w ∷ q.joined) (below_more w (N b) q.joined h i.joined_known) (once_more w q.joined new joined_once)

  pub filled-most : (w : ℕ) → filled b q.followed w ≤ length (in_links b w)
  filled-most = filled_within s q.followed i.followed_known i.followed_once

  -- a node has joined exactly if all its incoming links are followed
  pub filled-all : (w : ℕ) → w < N b → (filled b q.followed w ≡ length (in_links b w)) ↔ (times w q.joined ≡ 1)
  filled-all w h =
      (λ e. i.joins w h ∙ one_eq _ _ e, λ e. one_eq_back _ _ (omega (arith, i.joins w h)))

  -- before a link is followed its target has an incoming link to spare
  pub spare : (k : ℕ) → k < L b → times k q.followed ≡ 0 → filled b q.followed (link_to b k) < length (in_links b (link_to b k))
  spare = filled-below s q.followed i.followed_known i.followed_once

  -- .. and has not joined
  pub spare_new : (k : ℕ) → k < L b → times k q.followed ≡ 0 → times (link_to b k) q.joined ≡ 0
  spare_new k h new =
      let ne : filled b q.followed (link_to b k) ≡ length (in_links b (link_to b k)) → ⊥ = λ e. omega (arith, spare k h new) in
      i.joins (link_to b k) (s.target k h) ∙ one_ne _ _ ne

  -- .. so that there is room for it to join
  pub spare_room : (k : ℕ) → k < L b → times k q.followed ≡ 0 → length q.joined < N b
  spare_room k h new = room_for (link_to b k) (s.target k h) (spare_new k h new)

-- ---- the start

-- a node with a link to it has an incoming link
linked : {b : List ℕ} → Sound b → (k : ℕ) → k < L b → 0 < length (in_links b (link_to b k))
linked {b} s k h = omega (arith, filled-below s [] (λ j l. refl) (λ j. omega arith) k h refl)

pub started-queued : {b : List ℕ} → Sound b → Queued b (started b)
unfolding started
started-queued {b} s =
    record {
      joined_known = λ v h. times-keep_past free v (N b) h;
      followed_known = λ k h. refl;
      followed_once = λ k. omega arith;
      joins = λ w h. times-keep-upto free w (N b) h ∙ ap one (eqb_sym (length (in_links b w)) 0);
      sourced = λ k h l. absurd (omega arith);
      behind = λ k h i l e. absurd (no_link k h i l e);
    }
  where
    free : ℕ → Bool
    free v = eqb (length (in_links b v)) 0

    -- a node that starts in the queue is the target of no link
    no_link : (k : ℕ) → k < L b → (i : ℕ) → i < length (keep free (upto (N b))) → get_or (keep free (upto (N b))) i 0 ≡ link_to b k → ⊥
    no_link k h i l e =
        let here = times-place (keep free (upto (N b))) i l in
        let there = ap (λ (v : ℕ). times v (keep free (upto (N b)))) e in
        let kept = times-keep-upto free (link_to b k) (N b) (s.target k h) in
        omega (arith, linked s k h, one_eq_back (length (in_links b (link_to b k))) 0 (omega arith))
