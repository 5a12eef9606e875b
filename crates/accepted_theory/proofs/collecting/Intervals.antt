-- 01's intervals by the Rust's small map: its test of a line asks for an unlisted node between, and records come exactly if every line passes.
-- Rests on Collected and Filled.
use Prim.Native.Nat.{ℕ, ◌+◌, ◌-◌, ◌≤◌, ◌<◌}
use native.Mathlib.Omega.{arith}
use mathlib.Core.Path.{◌≡◌, refl, sym, ap, ap₂, ◌∙◌}
use mathlib.Core.Logic.{◌↔◌}
use mathlib.Core.Bool.{Bool, true, false, ◌&&◌, cond}
use mathlib.Core.List.{List, [], ◌∷◌, map, map-map}
use lib.ListN.{length, get_or, length-map}
use lib.Dec.{eqb, ltb}
use borrow.Author.Tests.{eq-eqb, ne_eqb, lt-ltb}
use Rattle.lists.specs.Lists.{all, keep, times, member, least, greatest, In, Rising}
use Rattle.lists.specs.Found.{at, number}
use Rattle.lists.proofs.Count.{length-keep}
use Rattle.lists.proofs.First.{first-is}
use Rattle.lists.proofs.Members.{member_yes, times-kept}
use Rattle.paper.specs.Area.{K, position, nodes_of}
use Rattle.paper.specs.Accepted.{Accepted}
use Rattle.paper.specs.Lookup.{lookup}
use Rattle.paper.specs.Intervals.{Interval, Records, records, apart, touched, listed_positions, interval, within, contiguous, intervals}
use Rattle.accepted_theory.specs.collecting.SmallMap.{Held, add_nodes, fills}
use Rattle.accepted_theory.specs.collecting.Collected.{Listing, held}
use Rattle.accepted_theory.proofs.collecting.Laws.{least-there, all_in, all_map, all_passes, all-passed, rising_places}
use Rattle.accepted_theory.proofs.collecting.Filled.{Filled, filled}
use Rattle.accepted_theory.proofs.collecting.Collected.{collected, listed-some, touched-known}

-- a rising list finds each of its numbers where it stands
lookup-rising : (xs : List ℕ) → Rising xs → (i : ℕ) → i < length xs → lookup xs (get_or xs i 0) ≡ at i
unfolding lookup
lookup-rising xs r i h =
    first-is (λ j. eqb (get_or xs j 0) (get_or xs i 0)) (length xs) i
    (record {
      known = h;
      passes = eq-eqb (get_or xs i 0) (get_or xs i 0) refl;
      fail = λ k l. ne_eqb (get_or xs k 0) (get_or xs i 0) (λ e. omega (arith, rising_places xs r k i l h));
    })

module _ {b a : List ℕ} (acc : Accepted b a) (list : List ℕ) (listing : Listing b list) where
  -- the node count - 1 places after the lowest is the highest exactly if the line has no unlisted node between
  pub fills-contiguous : (l : ℕ) → In l (touched b a list) → fills b a (held b a list l) ≡ contiguous b a list l
  unfolding fills held interval listed_positions contiguous within
  fills-contiguous l i =
      ap (λ (k : ℕ). ltb (k + n - 1) (length positions) && eqb (get_or positions (k + n - 1) 0) (greatest (listed_positions b a list l))) place
      ∙ ap (λ (t : Bool). t && eqb (get_or positions (row.place + n - 1) 0) (greatest (listed_positions b a list l)))
      (lt-ltb (row.place + n - 1) (length positions) (omega (arith, row.inside, length-map (nodes_of b a l) (position b a), some)))
      ∙ row.answer
    where
      line : l < K b a
      line = touched-known acc list listing.known l i

      positions : List ℕ
      positions = map (position b a) (nodes_of b a l)

      n : ℕ
      n = length (listed_positions b a list l)

      some : 1 ≤ n
      some = listed-some acc list listing l i

      row : Filled (position b a) (λ v. member v list) (nodes_of b a l) (least (listed_positions b a list l)) (greatest (listed_positions b a list l)) n
      row =
          filled (position b a) (λ v. member v list) (nodes_of b a l) (least (listed_positions b a list l)) (greatest (listed_positions b a list l)) n
          (acc.rises l line) refl refl (length-map (keep (λ v. member v list) (nodes_of b a l)) (position b a) ∙ length-keep (λ v. member v list) (nodes_of b a l)) some

      place : number (lookup positions (least (listed_positions b a list l))) ≡ row.place
      place =
          ap (λ (p : ℕ). number (lookup positions p)) (sym row.lowest)
          ∙ ap number (lookup-rising positions (acc.rises l line) row.place (omega (arith, row.inside, length-map (nodes_of b a l) (position b a), some)))

  -- the lowest listed position is one of the line's
  pub lowest-on-line : (l : ℕ) → In l (touched b a list) → member (held b a list l).interval.lowest (map (position b a) (nodes_of b a l)) ≡ true
  unfolding held interval listed_positions
  lowest-on-line l i =
      member_yes (least (listed_positions b a list l)) (map (position b a) (nodes_of b a l)) (go (listed_positions b a list l) refl)
    where
      go : (ps : List ℕ) → listed_positions b a list l ≡ ps → 1 ≤ times (least (listed_positions b a list l)) (map (position b a) (nodes_of b a l))
      go [] e = absurd (omega (arith, listed-some acc list listing l i, ap length e))
      go (p ∷ ps) e =
          let there : 1 ≤ times (least (listed_positions b a list l)) (listed_positions b a list l) = rw e (least-there p ps) in
          omega (arith, times-kept (position b a) (λ v. member v list) (least (listed_positions b a list l)) (nodes_of b a l))

  pub intervals_by_map : intervals b a list
      ≡ cond (all (fills b a) (add_nodes b a list [])) (records (map (λ h. h.interval) (add_nodes b a list []))) apart
  unfolding intervals held
  intervals_by_map =
      ap₂ (λ (t : Bool) (rs : List Interval). cond t (records rs) apart)
      (sym (all_in (λ l. fills b a (held b a list l)) (contiguous b a list) (touched b a list) fills-contiguous)
      ∙ sym (all_map (fills b a) (held b a list) (touched b a list)))
      (sym (map-map (λ h. h.interval) (held b a list) (touched b a list)))
      ∙ ap (λ (hs : List Held). cond (all (fills b a) hs) (records (map (λ h. h.interval) hs)) apart) (sym (collected acc list listing))

-- records exactly if every touched line is contiguous
pub contiguous-records : (b a list : List ℕ)
    → (intervals b a list ≡ records (map (interval b a list) (touched b a list)))
    ↔ ((l : ℕ) → In l (touched b a list) → contiguous b a list l ≡ true)
unfolding intervals
contiguous-records b a list = (to (all (contiguous b a list) (touched b a list)) refl, back)
  where
    given : Records
    given = records (map (interval b a list) (touched b a list))

    to : (t : Bool) → all (contiguous b a list) (touched b a list) ≡ t → cond t given apart ≡ given
        → (l : ℕ) → In l (touched b a list) → contiguous b a list l ≡ true
    to true e q = all-passed (contiguous b a list) (touched b a list) e
    to false e q = absurd (never q)
      where
        never : apart ≡ given → ⊥
        never q = let z : ◌≡◌ {A = ℕ} 0 1 = cc in omega arith

    back : ((l : ℕ) → In l (touched b a list) → contiguous b a list l ≡ true) → intervals b a list ≡ given
    back h = ap (λ (t : Bool). cond t given apart) (all_passes (contiguous b a list) (touched b a list) h)
