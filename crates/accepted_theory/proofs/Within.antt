-- On accepted tables of a sound map a node has no more linked inputs, and no more outgoing links, than lines: each link is a step of a line of its own,
-- and a line passes a node once at most. Rests on order_theory.Links, Tables and Counts.
use Prim.Native.Nat.{ℕ, ◌≤◌, ◌<◌}
use native.Mathlib.Omega.{arith}
use mathlib.Core.Path.{◌≡◌, refl, sym, ap, ◌∙◌}
use mathlib.Core.Bool.{Bool, ◌&&◌, and_comm}
use mathlib.Core.List.{List, [], ◌∷◌}
use lib.ListN.{length}
use lib.Dec.{eqb}
use Rattle.lists.specs.Lists.{upto, one, count, keep, member, times}
use Rattle.lists.specs.Weight.{total}
use Rattle.lists.proofs.Count.{eqb_sym, length-keep, times-keep-upto, times-keep_past, count_same}
use Rattle.lists.proofs.Compare.{same_length}
use Rattle.lists.proofs.Members.{times-member}
use Rattle.lists.proofs.Rising.{rising-once}
use Rattle.lists.proofs.Weight.{count-total, count-from-none, total_le, total-same, length-listed}
use Rattle.paper.specs.Map.{N, L, link_from, link_to, in_links, out_links}
use Rattle.paper.specs.Area.{W, K, position, lines_of, nodes_of}
use Rattle.paper.specs.Accepted.{links_between, right_after, lines_between, Accepted}
use Rattle.order_theory.specs.Sound.{Sound}
use Rattle.order_theory.proofs.Links.{out-known, out-times, in_count}
use Rattle.accepted_theory.proofs.Every.{below-every}
use Rattle.accepted_theory.proofs.Tables.{lines-known}
use Rattle.accepted_theory.proofs.Counts.{count_swap, count_or, among_one, among_few}

-- ---- steps into and out of a node on one line

module _ (v n : ℕ) where
  steps_into : (x : ℕ) (xs : List ℕ) → count (λ u. right_after u v (x ∷ xs)) (upto n) ≤ times v xs
  unfolding right_after
  steps_into x [] = omega (arith, count-from-none (λ u. right_after u v (x ∷ [])) 0 n (λ u h. refl))
  steps_into x (y ∷ ys) =
      omega (
        arith,
        count_or (λ u. eqb x u && eqb y v) (λ u. right_after u v (y ∷ ys)) (upto n),
        among_few x n (eqb y v),
        ap one (eqb_sym y v),
        steps_into y ys,
      )

  steps_in : (xs : List ℕ) → count (λ u. right_after u v xs) (upto n) ≤ times v xs
  unfolding right_after
  steps_in [] = omega (arith, count-from-none (λ u. right_after u v []) 0 n (λ u h. refl))
  steps_in (x ∷ xs) = omega (arith, steps_into x xs)

  steps-out : (xs : List ℕ) → count (λ w. right_after v w xs) (upto n) ≤ times v xs
  unfolding right_after
  steps-out [] = omega (arith, count-from-none (λ w. right_after v w []) 0 n (λ w h. refl))
  steps-out (x ∷ []) = omega (arith, count-from-none (λ w. right_after v w (x ∷ [])) 0 n (λ w h. refl))
  steps-out (x ∷ (y ∷ ys)) =
      omega (
        arith,
        count_or (λ w. eqb x v && eqb y w) (λ w. right_after v w (y ∷ ys)) (upto n),
        count_same (λ w. eqb x v && eqb y w) (λ w. eqb y w && eqb x v) (λ w. and_comm (eqb x v) (eqb y w)) (upto n),
        among_few y n (eqb x v),
        ap one (eqb_sym x v),
        steps-out (y ∷ ys),
      )

-- ---- the links of a node, by the node at their other end

module _ {b : List ℕ} (s : Sound b) (v : ℕ) where
  pub out-count : length (out_links b v) ≡ count (λ k. eqb (link_from b k) v) (upto (L b))
  out-count =
      same_length (L b) (out_links b v) (keep out (upto (L b))) (out-known b v) (λ k h. times-keep_past out k (L b) h)
      (λ k h. out-times s v k h ∙ sym (times-keep-upto out k (L b) h))
      ∙ length-keep out (upto (L b))
    where
      out : ℕ → Bool
      out k = eqb (link_from b k) v

  links_in : total (λ u. links_between b u v) (upto (N b)) ≡ length (in_links b v)
  unfolding links_between
  links_in =
      count_swap (λ u k. eqb (link_from b k) u && eqb (link_to b k) v) (upto (N b)) (upto (L b))
      ∙ total-same (λ k. count (λ u. eqb (link_from b k) u && eqb (link_to b k) v) (upto (N b))) (λ k. one (eqb (link_to b k) v)) (L b)
      (λ k h. among_one (link_from b k) (N b) (eqb (link_to b k) v) (s.source k h))
      ∙ sym (count-total (λ k. eqb (link_to b k) v) (λ k. one (eqb (link_to b k) v)) (λ k. refl) (upto (L b)))
      ∙ sym (in_count s v)

  links-out : total (λ w. links_between b v w) (upto (N b)) ≡ length (out_links b v)
  unfolding links_between
  links-out =
      count_swap (λ w k. eqb (link_from b k) v && eqb (link_to b k) w) (upto (N b)) (upto (L b))
      ∙ total-same (λ k. count (λ w. eqb (link_from b k) v && eqb (link_to b k) w) (upto (N b))) (λ k. one (eqb (link_from b k) v)) (L b)
      (λ k h. count_same (λ w. eqb (link_from b k) v && eqb (link_to b k) w) (λ w. eqb (link_to b k) w && eqb (link_from b k) v)
      (λ w. and_comm (eqb (link_from b k) v) (eqb (link_to b k) w))
      (upto (N b))
      ∙ among_one (link_to b k) (N b) (eqb (link_from b k) v) (s.target k h))
      ∙ sym (count-total (λ k. eqb (link_from b k) v) (λ k. one (eqb (link_from b k) v)) (λ k. refl) (upto (L b)))
      ∙ sym out-count

-- ---- all lines

module _ {b a : List ℕ} (acc : Accepted b a) (s : Sound b) (room : W b ≤ length a) (v : ℕ) (h : v < N b) where
  -- a node lists the lines that list it
  lines-listed : length (lines_of b a v) ≡ count (λ l. member v (nodes_of b a l)) (upto (K b a))
  lines-listed =
      length-listed (λ l. member v (nodes_of b a l)) (K b a) (lines_of b a v) (below-every (K b a) (lines_of b a v) (lines-known acc room v h))
      (acc.listed v h)

  -- steps on the lines, of which each line has no more at v than it lists v
  steps-within : (step : ℕ → ℕ → Bool) → ((l : ℕ) → count (λ u. step u l) (upto (N b)) ≤ times v (nodes_of b a l))
      → total (λ u. count (step u) (upto (K b a))) (upto (N b)) ≤ length (lines_of b a v)
  steps-within step few =
      omega (
        arith,
        count_swap step (upto (N b)) (upto (K b a)),
        total_le (λ l. count (λ u. step u l) (upto (N b))) (λ l. one (member v (nodes_of b a l))) (K b a) once-listed,
        count-total (λ l. member v (nodes_of b a l)) (λ l. one (member v (nodes_of b a l))) (λ l. refl) (upto (K b a)),
        lines-listed,
      )
    where
      once-listed : (l : ℕ) → l < K b a → count (λ u. step u l) (upto (N b)) ≤ one (member v (nodes_of b a l))
      once-listed l g =
          omega (arith, few l, times-member v (nodes_of b a l) (rising-once (position b a) (nodes_of b a l) (acc.rises l g) v))

  pub inputs-within-lines : length (in_links b v) ≤ length (lines_of b a v)
  unfolding lines_between
  inputs-within-lines =
      omega (
        arith,
        links_in s v,
        total-same (λ u. links_between b u v) (λ u. lines_between b a u v) (N b) (λ u g. acc.adjacent u g v h),
        steps-within (λ u l. right_after u v (nodes_of b a l)) (λ l. steps_in v (N b) (nodes_of b a l)),
      )

  pub outputs-within-lines : length (out_links b v) ≤ length (lines_of b a v)
  unfolding lines_between
  outputs-within-lines =
      omega (
        arith,
        links-out s v,
        total-same (λ w. links_between b v w) (λ w. lines_between b a v w) (N b) (λ w g. acc.adjacent v h w g),
        steps-within (λ w l. right_after v w (nodes_of b a l)) (λ l. steps-out v (N b) (nodes_of b a l)),
      )
