-- The places of a list: which they are, that their last one is known, and that they are those of the row up to it that are listed.
-- Rests on accepted_theory.Chosen (the largest of a list) and Neighbours.
use Prim.Native.Nat.{ℕ, suc, ◌+◌, ◌-◌, ◌≤◌, ◌<◌}
use native.Mathlib.Omega.{arith}
use mathlib.Core.Path.{◌≡◌, refl, sym, ap, ◌∙◌}
use mathlib.Core.Bool.{Bool, true, false}
use mathlib.Core.List.{List, [], ◌∷◌, ◌++◌, Memᴰ, append-nil}
use lib.ListN.{length}
use lib.Dec.{leb}
use borrow.Author.Tests.{leb-true, le-leb}
use Rattle.lists.specs.Lists.{from, upto, keep, member, least, greatest}
use Rattle.lists.proofs.Upto.{from-add, keep_append}
use Rattle.lists.proofs.Count.{keep-upto}
use Rattle.lists.proofs.Members.{keep_nothing, keep-there}
use Rattle.accepted_theory.proofs.recorded.Among.{same_truth, and_both, keep_at, keep_passes, member_at, member_in, upto_at, upto-below}
use Rattle.accepted_theory.proofs.recorded.Chosen.{greatest-above, greatest_in}
use Rattle.paper.specs.Map.{N}
use Rattle.paper.specs.Area.{W}
use Rattle.paper.specs.Accepted.{Accepted}
use Rattle.paper.specs.OrderCheck.{places_of, in_range, neighbour_places}
use Rattle.order_theory.specs.Sound.{Sound}
use Rattle.convexity_theory.specs.places.Places.{node_at}
use Rattle.convexity_theory.proofs.places.Neighbours.{next}
use Rattle.convexity_theory.proofs.places.Rows.{from_low, from-high}

-- ---- the range

pub range_ends : (places : List ℕ) (i : ℕ) → in_range places i ≡ true → (least places ≤ i) × (i ≤ greatest places)
unfolding in_range
range_ends places i e =
    let both = and_both (leb (least places) i) (leb i (greatest places)) e in
    (leb-true (least places) i both.0, leb-true i (greatest places) both.1)

pub in_range_lem : (places : List ℕ) (i : ℕ) → least places ≤ i → i ≤ greatest places → in_range places i ≡ true
unfolding in_range
in_range_lem places i low high = rw (le-leb (least places) i low, le-leb i (greatest places) high)

-- ---- the list's places

-- a row in which none passes from m on
cut : (f : ℕ → Bool) (n m : ℕ) → m ≤ n → ((j : ℕ) → m ≤ j → j < n → f j ≡ false) → keep f (upto n) ≡ keep f (upto m)
cut f n m h none =
    ap (λ (k : ℕ). keep f (upto k)) whole ∙ ap (keep f) (from-add 0 m (n - m)) ∙ keep_append f (upto m) (from (0 + m) (n - m))
    ∙ ap (λ (xs : List ℕ). keep f (upto m) ++ xs)
    (keep_nothing f (from (0 + m) (n - m)) (λ j i. none j (omega (arith, from_low (0 + m) (n - m) i)) (omega (arith, from-high (0 + m) (n - m) i))))
    ∙ append-nil (keep f (upto m))
  where
    whole : n ≡ m + (n - m)
    whole = omega arith

module _ (b a list : List ℕ) where
  places_of-row : places_of b a list ≡ keep (λ j. member (node_at b a j) list) (upto (N b))
  unfolding places_of
  places_of-row = refl

  pub place-known : {i : ℕ} → Memᴰ i (places_of b a list) → i < N b
  unfolding places_of
  place-known {i} m = upto-below i (N b) (keep-there (λ j. member (node_at b a j) list) (upto (N b)) m)

  pub place-listed : {i : ℕ} → Memᴰ i (places_of b a list) → member (node_at b a i) list ≡ true
  unfolding places_of
  place-listed m = keep_passes (λ j. member (node_at b a j) list) (upto (N b)) m

  pub listed-place : (i : ℕ) → i < N b → member (node_at b a i) list ≡ true → Memᴰ i (places_of b a list)
  unfolding places_of
  listed-place i h e = keep_at (λ j. member (node_at b a j) list) (upto_at i (N b) h) e

  pub member-place : (i : ℕ) → i < N b → member i (places_of b a list) ≡ member (node_at b a i) list
  member-place i h =
      same_truth (member i (places_of b a list)) (member (node_at b a i) list) (λ e. place-listed (member_in i (places_of b a list) e))
      (λ e. member_at (listed-place i h e))

-- ---- what the loops rest on

-- neighbours stand later and within the range, which ends at a listed place; the listed places are those of the row up to it
pub record Ranged (b a places : List ℕ) : Type 0 where
  pub ends : greatest places < N b
  pub last : Memᴰ (greatest places) places
  pub row : keep (λ j. member j places) (upto (suc (greatest places))) ≡ places
  pub later : (i : ℕ) → i ≤ greatest places → (j : ℕ) → Memᴰ j (neighbour_places b a places i) → (i < j) × (j ≤ greatest places)

module _ {b a : List ℕ} (acc : Accepted b a) (s : Sound b) (room : W b ≤ length a) (list : List ℕ) where
  pub ranged : 1 ≤ length (places_of b a list) → Ranged b a (places_of b a list)
  ranged some = record { ends = ends; last = last; row = row; later = later }
    where
      places : List ℕ
      places = places_of b a list

      first : (xs : List ℕ) → 1 ≤ length xs → (x : ℕ) × Memᴰ x xs
      first [] h = absurd (omega arith)
      first (x ∷ xs) h = (x, Memᴰ.head refl)

      last : Memᴰ (greatest places) places
      last = greatest_in (first places some).1

      ends : greatest places < N b
      ends = place-known b a list last

      end : ℕ
      end = suc (greatest places)

      test : ℕ → Bool
      test j = member (node_at b a j) list

      -- none is listed past the last
      past : (j : ℕ) → end ≤ j → j < N b → test j ≡ false
      past j low high = go (test j) refl
        where
          go : (t : Bool) → test j ≡ t → t ≡ false
          go true e = absurd (omega (arith, greatest-above (listed-place b a list j high e)))
          go false e = refl

      row : keep (λ j. member j places) (upto end) ≡ places
      row =
          keep-upto (λ j. member j places) test end (λ k l. member-place b a list k (omega (arith, ends)))
          ∙ sym (places_of-row b a list ∙ cut test (N b) end ends past)

      later : (i : ℕ) → i ≤ greatest places → (j : ℕ) → Memᴰ j (neighbour_places b a places i) → (i < j) × (j ≤ greatest places)
      later i h j m =
          let n = next acc s room places (omega (arith, ends)) m in
          (n.later, (range_ends places j n.range).1)
