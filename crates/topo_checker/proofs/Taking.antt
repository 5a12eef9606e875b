-- Taking in the list: after each entry a place is marked exactly if its node is among the entries; then the extent of the marked places.
-- Rests on lists.First, tables.Within and Ends.
use Prim.Native.Nat.{ℕ, zero, suc, ◌+◌, ◌≤◌, ◌<◌}
use native.Mathlib.Decide.{ℕ_discrete}
use native.Mathlib.Numerals.{add-one}
use native.Mathlib.Omega.{arith}
use mathlib.Core.Path.{◌≡◌, refl, sym, ap, ◌∙◌, subst}
use mathlib.Core.Logic.{inl, inr}
use mathlib.Core.Bool.{Bool, true, false, ◌||◌, not, cond, or-true, or-false}
use mathlib.Core.List.{List, [], ◌∷◌, ◌++◌, append-nil}
use lib.ListN.{length, get_or, take, set, length-append}
use lib.Seq.{take_all, take-suc, get_or-set_same, get_or-set_other}
use lib.Dec.{eqb, leb, ltb}
use borrow.Author.Count.{below_more}
use borrow.Author.Tests.{lt-ltb, le-ltb, ltb-true, ltb-false, le-leb, lt-leb, eq-eqb, ne_eqb, not-true, not-false}
use Rattle.lists.specs.Lists.{upto, one, keep, member}
use Rattle.lists.proofs.First.{first-is, first-none}
use Rattle.lists.proofs.Upto.{upto-suc, keep_append}
use Rattle.paper.specs.Refusals.{refuse, earliest}
use Rattle.refusals.specs.declared.Refusal.TheVariants.{Unknown}
use Rattle.refusals.proofs.Rulings.{no_refusal}
use Rattle.std.specs.Prelude.{Option, Some, None, Ok, Err}
use Rattle.tables.specs.declared.Layout.{Layout}
use Rattle.tables.specs.Within.{Within}
use Rattle.tables.proofs.Within.{within-set}
use Rattle.convexity_theory.proofs.places.Rows.{any_append}
use Rattle.topo_checker.specs.Listing.{NodeTaken, ListTaken, marked_places, wider, extent_below, Spans, Under, ExtentOf}
use Rattle.topo_checker.specs.Room.{marks_size, PlacesStand}
use Rattle.topo_checker.specs.declared.layout.OrderRoom.{OrderRoom}
use Rattle.topo_checker.proofs.Ends.{greatest_more, least_more}

-- ---- one node

pub node_unknown : (a : List ℕ) (at : Layout) (room : OrderRoom) (v : ℕ) → at.sizes.nodes ≤ v → NodeTaken a at room v false a
node_unknown a at room v h = record { known = sym (le-ltb v at.sizes.nodes h); left = rw (le-ltb v at.sizes.nodes h) }

module _ {a : List ℕ} {at : Layout} {room : OrderRoom} {v i : ℕ} (placed : PlacesStand a at room) (h : v < at.sizes.nodes) (read : i ≡ get_or a (room.places + v) 0) where
  pub mark-inside : room.listed + i < length a
  mark-inside = omega (arith, placed.place-known v h, placed)

  pub node-marked : NodeTaken a at room v true (set a (room.listed + i) 1)
  node-marked = record { known = sym (lt-ltb v at.sizes.nodes h); left = rw (lt-ltb v at.sizes.nodes h) (ap (λ (j : ℕ). set a (room.listed + j) 1) read) }

-- the places stand, while marks are written
pub placed_still : {a m : List ℕ} {at : Layout} {room : OrderRoom} → PlacesStand a at room → Within room.listed (marks_size room) a m → PlacesStand m at room
placed_still {a} {m} {at} {room} placed kept =
    record {
      fits = placed.fits;
      after-order = placed.after-order;
      inside = omega (arith, placed.inside, kept.long);
      small = placed.small;
      node-known = λ i h. omega (arith, node i h, placed.node-known i h);
      placed = λ i h. ap (λ (v : ℕ). get_or m (room.places + v) 0) (node i h) ∙ place (get_or a (at.order + i) 0) ∙ placed.placed i h;
      place-known = λ v h. omega (arith, place v, placed.place-known v h);
      holds = λ v h. ap (λ (i : ℕ). get_or m (at.order + i) 0) (place v) ∙ node (get_or a (room.places + v) 0) (placed.place-known v h) ∙ placed.holds v h;
    }
  where
    node : (i : ℕ) → i < at.sizes.nodes → get_or m (at.order + i) 0 ≡ get_or a (at.order + i) 0
    node i h = kept.same (at.order + i) (inl (omega arith))

    place : (v : ℕ) → get_or m (room.places + v) 0 ≡ get_or a (room.places + v) 0
    place v = kept.same (room.places + v) (inr (omega arith))

-- ---- the list, entry by entry

-- the first i entries are known, and the places of their nodes are marked
pub record TakenBelow (a : List ℕ) (at : Layout) (room : OrderRoom) (list : List ℕ) (i : ℕ) (m : List ℕ) : Type 0 where
  pub known : (k : ℕ) → k < i → leb at.sizes.nodes (get_or list k 0) ≡ false
  pub kept : Within room.listed at.sizes.nodes a m
  pub marked : (j : ℕ) → j < at.sizes.nodes → get_or m (room.listed + j) 0 ≡ one (member (get_or a (at.order + j) 0) (take i list))

member_more : (x v : ℕ) (xs : List ℕ) (t : Bool) → eqb x v ≡ t → member x (xs ++ (v ∷ [])) ≡ (member x xs || t)
member_more x v xs t e = any_append (eqb x) xs (v ∷ []) ∙ ap (λ (s : Bool). member x xs || s) (or-false (eqb x v) ∙ e)

module _ {a : List ℕ} {at : Layout} {room : OrderRoom} (placed : PlacesStand a at room) {list : List ℕ} {i : ℕ} {m : List ℕ}
    (taken : TakenBelow a at room list i m) where
  module _ {v : ℕ} (inside : i < length list) (is : v ≡ get_or list i 0) {r : Bool} {m' : List ℕ} (node : NodeTaken m at room v r m') where
    pub taken_next : not r ≡ false → TakenBelow a at room list (i + 1) m'
    taken_next e =
        record {
          known = below_more _ i taken.known (lt-leb at.sizes.nodes (get_or list i 0) (omega (arith, is, low)));
          kept = subst (Within room.listed at.sizes.nodes a) (sym wrote) (within-set taken.kept (room.listed + get_or a (room.places + v) 0) 1 (omega arith) (omega (arith, place-low)));
          marked = λ j h. ap (λ (w : List ℕ). get_or w (room.listed + j) 0) wrote ∙ each j h (ℕ_discrete j (get_or a (room.places + v) 0));
        }
      where
        test : ltb v at.sizes.nodes ≡ true
        test = sym node.known ∙ not-false r e

        low : v < at.sizes.nodes
        low = ltb-true v at.sizes.nodes test

        place-low : get_or a (room.places + v) 0 < at.sizes.nodes
        place-low = placed.place-known v low

        wrote : m' ≡ set m (room.listed + get_or a (room.places + v) 0) 1
        wrote =
            node.left ∙ ap (λ (t : Bool). cond t (set m (room.listed + get_or m (room.places + v) 0) 1) m) test
            ∙ ap (λ (k : ℕ). set m (room.listed + k) 1) (taken.kept.same (room.places + v) (inr (omega arith)))

        more : take (i + 1) list ≡ take i list ++ (v ∷ [])
        more =
            ap (λ (k : ℕ). take k list) (add-one i) ∙ take-suc list i 0 inside ∙ ap (λ (x : ℕ). take i list ++ (x ∷ [])) (sym is)

        entry : (j : ℕ) (t : Bool) → eqb (get_or a (at.order + j) 0) v ≡ t
            → one (member (get_or a (at.order + j) 0) (take i list) || t) ≡ one (member (get_or a (at.order + j) 0) (take (i + 1) list))
        entry j t e =
            ap one (sym (ap (member (get_or a (at.order + j) 0)) more ∙ member_more (get_or a (at.order + j) 0) v (take i list) t e))

        each : (j : ℕ) → j < at.sizes.nodes → Dec (j ≡ get_or a (room.places + v) 0)
            → get_or (set m (room.listed + get_or a (room.places + v) 0) 1) (room.listed + j) 0 ≡ one (member (get_or a (at.order + j) 0) (take (i + 1) list))
        each j h (yes e) =
            ap (λ (k : ℕ). get_or (set m (room.listed + get_or a (room.places + v) 0) 1) (room.listed + k) 0) e
            ∙ get_or-set_same m (room.listed + get_or a (room.places + v) 0) 1 0 (omega (arith, place-low, placed, taken.kept.long))
            ∙ sym (ap one (or-true (member (get_or a (at.order + j) 0) (take i list))))
            ∙ entry j true (eq-eqb (get_or a (at.order + j) 0) v (ap (λ (k : ℕ). get_or a (at.order + k) 0) e ∙ placed.holds v low))
        each j h (no ne) =
            get_or-set_other m (room.listed + get_or a (room.places + v) 0) (room.listed + j) 1 0 (λ e. ne (omega arith))
            ∙ taken.marked j h
            ∙ sym (ap one (or-false (member (get_or a (at.order + j) 0) (take i list))))
            ∙ entry j false (ne_eqb (get_or a (at.order + j) 0) v (λ e. ne (sym (placed.placed j h) ∙ ap (λ (k : ℕ). get_or a (room.places + k) 0) e)))

    -- the first unknown entry
    pub unknown_taken : not r ≡ true → ListTaken a at room list (Err (Unknown i)) m'
    unfolding earliest refuse
    unknown_taken e =
        record {
          said = ap (refuse 9) (sym (first-is (λ k. leb at.sizes.nodes (get_or list k 0)) (length list) i
              (record { known = inside; passes = le-leb at.sizes.nodes (get_or list i 0) (omega (arith, is, ltb-false v at.sizes.nodes test)); fail = taken.known })));
          kept = subst (Within room.listed at.sizes.nodes a) (sym (node.left ∙ ap (λ (t : Bool). cond t (set m (room.listed + get_or m (room.places + v) 0) 1) m) test)) taken.kept;
          marked = λ p. absurd (no_refusal (sym p));
        }
      where
        test : ltb v at.sizes.nodes ≡ false
        test = sym node.known ∙ not-true r e

  pub all-taken : length list ≤ i → i ≤ length list → ListTaken a at room list (Ok tt) m
  unfolding earliest refuse
  all-taken high low =
      record {
        said = ap (refuse 9) (sym (first-none (λ k. leb at.sizes.nodes (get_or list k 0)) (length list) (λ k h. taken.known k (omega arith))));
        kept = taken.kept;
        marked = λ p j h. taken.marked j h ∙ ap (λ (xs : List ℕ). one (member (get_or a (at.order + j) 0) xs)) (take_all i list high);
      }

-- ---- the extent

pub extent_next : (a : List ℕ) (marks i : ℕ) {e r : Option (ℕ × ℕ)} → e ≡ extent_below a marks i → r ≡ cond (eqb (get_or a (marks + i) 0) 0) e (wider e i)
    → r ≡ extent_below a marks (i + 1)
unfolding extent_below
extent_next a marks i is said =
    said ∙ ap (λ (e : Option (ℕ × ℕ)). cond (eqb (get_or a (marks + i) 0) 0) e (wider e i)) is ∙ ap (extent_below a marks) (sym (add-one i))

wider-spans : (places : List ℕ) (e : Option (ℕ × ℕ)) (i : ℕ) → Spans places e → Under i e → Spans (places ++ (i ∷ [])) (wider e i)
wider-spans places None i s u = subst (λ (xs : List ℕ). Spans (xs ++ (i ∷ [])) (Some (i, i))) (sym s) (omega arith, omega arith, omega arith)
wider-spans places (Some ends) i s u = (
  omega (arith, s.0, length-append places (i ∷ [])),
  least_more places i s.0 (omega (arith, s.2, u.1)) ∙ s.1,
  greatest_more places i (omega (arith, s.2, u.1)),
)

wider-under : (e : Option (ℕ × ℕ)) (i : ℕ) → Under i e → Under (suc i) (wider e i)
wider-under None i u = (omega arith, omega arith)
wider-under (Some ends) i u = (omega (arith, u.0, u.1), omega arith)

under_more : (e : Option (ℕ × ℕ)) (i : ℕ) → Under i e → Under (suc i) e
under_more None i u = tt
under_more (Some ends) i u = (u.0, omega (arith, u.1))

-- one place more, marked or not
module _ (a : List ℕ) (marks n : ℕ) where
  abbrev test : ℕ → Bool
  test j = not (eqb (get_or a (marks + j) 0) 0)

  places_more : (t : Bool) → eqb (get_or a (marks + n) 0) 0 ≡ t → marked_places a marks (suc n) ≡ marked_places a marks n ++ cond t [] (n ∷ [])
  unfolding marked_places
  places_more t e =
      ap (keep test) (upto-suc n) ∙ keep_append test (upto n) (n ∷ []) ∙ ap (λ (xs : List ℕ). keep test (upto n) ++ xs) (last t e)
    where
      last : (t : Bool) → eqb (get_or a (marks + n) 0) 0 ≡ t → keep test (n ∷ []) ≡ cond t [] (n ∷ [])
      last true e = rw e
      last false e = rw e

  extent_more : {e : Option (ℕ × ℕ)} → ExtentOf a marks n e → ExtentOf a marks (suc n) (cond (eqb (get_or a (marks + n) 0) 0) e (wider e n))
  extent_more {e} so = go (eqb (get_or a (marks + n) 0) 0) refl
    where
      go : (t : Bool) → eqb (get_or a (marks + n) 0) 0 ≡ t → ExtentOf a marks (suc n) (cond t e (wider e n))
      go true q =
          record {
            spans = subst (λ (xs : List ℕ). Spans xs e) (sym (places_more true q ∙ append-nil (marked_places a marks n))) so.spans;
            under = under_more e n so.under;
          }
      go false q =
          record {
            spans = subst (λ (xs : List ℕ). Spans xs (wider e n)) (sym (places_more false q)) (wider-spans (marked_places a marks n) e n so.spans so.under);
            under = wider-under e n so.under;
          }

extent_so : (a : List ℕ) (marks n : ℕ) → ExtentOf a marks n (extent_below a marks n)
unfolding extent_below marked_places
extent_so a marks zero = record { spans = refl; under = tt }
extent_so a marks (suc n) = extent_more a marks n (extent_so a marks n)

pub extent_all : (a : List ℕ) (marks : ℕ) {n i : ℕ} {e : Option (ℕ × ℕ)} → e ≡ extent_below a marks i → i ≤ n → n ≤ i → ExtentOf a marks n e
extent_all a marks {n} {i} {e} is low high =
    subst (ExtentOf a marks n) (sym (is ∙ ap (extent_below a marks) (omega arith))) (extent_so a marks n)
