-- Following one more link keeps the queue's invariant.
-- Rests on Queue.
use Prim.Native.Nat.{ℕ, ◌+◌, ◌≤◌, ◌<◌}
use native.Mathlib.Decide.{ℕ_discrete, dec_lt}
use native.Mathlib.Omega.{arith}
use mathlib.Core.Path.{◌≡◌, refl, sym, ap, ◌∙◌, subst}
use mathlib.Core.Bool.{Bool, true, false, cond}
use mathlib.Core.List.{List, [], ◌∷◌, ◌++◌}
use lib.ListN.{length, get_or, take, length-append, get_or-append}
use lib.Seq.{take-append-le, take_at, get_or_at}
use lib.Dec.{eqb}
use borrow.Author.Tests.{eqb-true}
use Rattle.lists.specs.Lists.{one, count, times}
use Rattle.lists.proofs.Upto.{count-append}
use Rattle.paper.specs.Map.{N, L, link_from, link_to, in_links}
use Rattle.paper.specs.Order.{Queue, fills_last, follow}
use Rattle.lists.specs.Bounds.{Below}
use Rattle.order_theory.specs.Sound.{Sound}
use Rattle.order_theory.specs.Queued.{filled, Queued}
use Rattle.lists.proofs.Count.{one_eq, one_ne, cond_small, cond_one, times-append_cond}
use Rattle.lists.proofs.Compare.{once_more}
use Rattle.order_theory.proofs.Queue.{filled-below, spare_new}

-- ---- the state after one more link

module _ (b : List ℕ) (k : ℕ) (q : Queue) where
  pub follow-joined : (v : ℕ) → times v (follow b k q).joined ≡ times v q.joined + cond (fills_last b q.followed k) (one (eqb v (link_to b k))) 0
  unfolding follow
  follow-joined v = times-append_cond v (link_to b k) q.joined (fills_last b q.followed k)

  pub follow-followed : (f : ℕ → Bool) → count f (follow b k q).followed ≡ count f q.followed + one (f k)
  unfolding follow
  follow-followed f = omega (arith, count-append f q.followed (k ∷ []))

-- ---- a link that was not followed, from a node that has joined

module _ {b : List ℕ} (s : Sound b) {q : Queue} (i : Queued b q) (k : ℕ) (h : k < L b) (new : times k q.followed ≡ 0)
    (source : 1 ≤ times (link_from b k) q.joined) where
  joined_known' : Below (N b) (follow b k q).joined
  joined_known' v l =
      let ne : v ≡ link_to b k → ⊥ = λ e. omega (arith, s.target k h) in
      omega
      (arith, follow-joined b k q v, i.joined_known v l, cond_small (fills_last b q.followed k) (one (eqb v (link_to b k))), one_ne v (link_to b k) ne)

  followed_known' : Below (L b) (follow b k q).followed
  followed_known' j l =
      let ne : j ≡ k → ⊥ = λ e. omega arith in
      omega (arith, follow-followed b k q (eqb j), i.followed_known j l, one_ne j k ne)

  followed_once' : (j : ℕ) → times j (follow b k q).followed ≤ 1
  followed_once' j = omega (arith, follow-followed b k q (eqb j), once_more k q.followed new i.followed_once j)

  -- the target joins exactly if the link was its last
  target-joins : times (link_to b k) (follow b k q).joined ≡ one (fills_last b q.followed k)
  target-joins =
      follow-joined b k q (link_to b k)
      ∙ rw (one_eq (link_to b k) (link_to b k) refl) (omega (arith, spare_new s i k h new, cond_one (fills_last b q.followed k)))

  -- a node that the link does not lead to stays as it is
  other_stays : (w : ℕ) → (link_to b k ≡ w → ⊥) → times w (follow b k q).joined ≡ times w q.joined
  other_stays w ne =
      omega
      (arith, follow-joined b k q w, cond_small (fills_last b q.followed k) (one (eqb w (link_to b k))), one_ne w (link_to b k) (λ e. ne (sym e)))

  other_filled : (w : ℕ) → (link_to b k ≡ w → ⊥) → filled b q.followed w ≡ filled b (follow b k q).followed w
  other_filled w ne = omega (arith, follow-followed b k q (λ j. eqb (link_to b j) w), one_ne (link_to b k) w ne)

  joins' : (w : ℕ) → w < N b → times w (follow b k q).joined ≡ one (eqb (filled b (follow b k q).followed w) (length (in_links b w)))
  unfolding follow fills_last
  joins' w l = go (ℕ_discrete (link_to b k) w)
    where
      go : Dec (link_to b k ≡ w) → times w (follow b k q).joined ≡ one (eqb (filled b (follow b k q).followed w) (length (in_links b w)))
      go (yes e) =
          subst (λ (w : ℕ). times w (follow b k q).joined ≡ one (eqb (filled b (follow b k q).followed w) (length (in_links b w)))) e
          target-joins
      go (no ne) = other_stays w ne ∙ i.joins w l ∙ ap (λ (n : ℕ). one (eqb n (length (in_links b w)))) (other_filled w ne)

  -- the source of a link followed by now had joined before
  sourced' : (j : ℕ) → j < L b → 1 ≤ times j (follow b k q).followed → 1 ≤ times (link_from b j) q.joined
  sourced' j l f = go (ℕ_discrete j k)
    where
      go : Dec (j ≡ k) → 1 ≤ times (link_from b j) q.joined
      go (yes e) = subst (λ (j : ℕ). 1 ≤ times (link_from b j) q.joined) (sym e) source
      go (no ne) = i.sourced j l (omega (arith, follow-followed b k q (eqb j), one_ne j k ne))

  -- when the target joins, every link to it is followed
  all-followed : fills_last b q.followed k ≡ true → (j : ℕ) → j < L b → link_to b j ≡ link_to b k → 1 ≤ times j (follow b k q).followed
  unfolding follow fills_last
  all-followed last j l e = go (dec_lt 0 (times j (follow b k q).followed))
    where
      go : Dec (0 < times j (follow b k q).followed) → 1 ≤ times j (follow b k q).followed
      go (yes m) = m
      go (no m) =
          let few = filled-below s (follow b k q).followed followed_known' followed_once' j l (omega arith) in
          let full = eqb-true (filled b (follow b k q).followed (link_to b k)) (length (in_links b (link_to b k))) last in
          absurd (omega (arith, ap (filled b (follow b k q).followed) e, ap (λ (w : ℕ). length (in_links b w)) e))

  -- whoever joins now stands behind all who joined before
  behind' : (t : Bool) → fills_last b q.followed k ≡ t → (j : ℕ) → j < L b → (n : ℕ)
      → n < length (q.joined ++ cond t (link_to b k ∷ []) []) → get_or (q.joined ++ cond t (link_to b k ∷ []) []) n 0 ≡ link_to b j
      → Dec (n < length q.joined) → 1 ≤ times (link_from b j) (take n (q.joined ++ cond t (link_to b k ∷ []) []))
  behind' t last j l n m e (yes inside) =
      rw (take-append-le n q.joined (cond t (link_to b k ∷ []) []) (omega arith))
      (i.behind j l n inside (sym (get_or-append q.joined (cond t (link_to b k ∷ []) []) 0 n inside) ∙ e))
  behind' true last j l n m e (no outside) =
      let here : length q.joined ≡ n = omega (arith, length-append q.joined (link_to b k ∷ [])) in
      rw (take_at q.joined (link_to b k ∷ []) n here)
      (sourced' j l (all-followed last j l (sym e ∙ get_or_at q.joined (link_to b k) [] 0 n here)))
  behind' false last j l n m e (no outside) = absurd (omega (arith, length-append q.joined []))

  pub follow-queued : Queued b (follow b k q)
  unfolding follow
  follow-queued =
      record {
        joined_known = joined_known';
        followed_known = followed_known';
        followed_once = followed_once';
        joins = joins';
        sourced = λ j l f. omega (arith, sourced' j l f, follow-joined b k q (link_from b j));
        behind = λ j l n m e. behind' (fills_last b q.followed k) refl j l n m e (dec_lt n (length q.joined));
      }
