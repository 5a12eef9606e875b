-- Passing the places, from the words of the area to convexity_theory's states: one place, then all of the range.
-- Rests on Neighbours, Nearby's contracts, and convexity_theory (Passing, Ends).
use Prim.Native.Nat.{ℕ, suc, ◌+◌, ◌-◌, ◌≤◌, ◌<◌}
use native.Mathlib.Numerals.{add-one}
use native.Mathlib.Omega.{arith}
use mathlib.Core.Path.{◌≡◌, refl, sym, ap, ap₂, ◌∙◌, subst}
use mathlib.Core.Logic.{inl}
use mathlib.Core.Bool.{Bool, true, false, ◌&&◌, not, cond}
use mathlib.Core.List.{List, [], ◌++◌, map}
use lib.ListN.{get_or}
use lib.Dec.{eqb, leb}
use Rattle.lists.specs.Lists.{upto, one, any, keep, member}
use Rattle.lists.specs.Found.{number}
use Rattle.lists.proofs.AllAny.{any_same}
use Rattle.paper.specs.Map.{out_neighbours}
use Rattle.paper.specs.Order.{place_in}
use Rattle.paper.specs.Area.{order_of}
use Rattle.paper.specs.Intervals.{No}
use Rattle.paper.specs.OrderCheck.{in_range, neighbour_places}
use Rattle.neighbours.specs.Linked.{out_start}
use Rattle.convexity_theory.specs.places.Passed.{Passed, going, fed_back, pass_place, passed_below, reply_of}
use Rattle.convexity_theory.proofs.places.Ends.{starts_at_first, fed_stays}
use Rattle.convexity_theory.proofs.places.Passing.{outsiders, pass_listed, pass_feeding, pass_marked, pass_other_lem}
use Rattle.convexity_theory.proofs.places.Rows.{any_append}
use Rattle.tables.specs.declared.Layout.{Layout}
use Rattle.tables.specs.Within.{Within}
use Rattle.tables.proofs.Usable.{tables_still}
use Rattle.tables.proofs.Within.{within_none, within_both, within_wider}
use Rattle.topo_checker.specs.Room.{marks_size, Laid}
use Rattle.topo_checker.specs.declared.layout.OrderRoom.{OrderRoom}
use Rattle.topo_checker.specs.Near.{place_reached, is_listed, is_other, leads_out, OthersMarked}
use Rattle.topo_checker.specs.Passing.{ListedBy, FutureBy, Follows, PlacePassed, Unpassed, StillGoing, PlacesPassed}
use Rattle.topo_checker.proofs.Marks.{mark_yes, mark_no, mark_zero, mark-some, mark_or}
use Rattle.topo_checker.proofs.Kept.{any-keep, keep-rest}
use Rattle.topo_checker.proofs.Laying.{marks_in_scratch, laid_still}
use Rattle.topo_checker.proofs.Neighbours.{reached-low, links-inside, near}

-- ---- a place by its mark

module _ {a : List ℕ} {at : Layout} {room : OrderRoom} {first last : ℕ} {places : List ℕ} (listed : ListedBy a at room first last places) where
  range_is : (j : ℕ) → in_range places j ≡ (leb first j && leb j last)
  unfolding in_range
  range_is j = ap₂ (λ (x y : ℕ). leb x j && leb j y) listed.lowest listed.highest

  listed-is : (j : ℕ) → j < at.sizes.nodes → (in_range places j && member j places) ≡ is_listed a room.listed first last j
  unfolding is_listed
  listed-is j h =
      ap₂ (λ (s t : Bool). s && t) (range_is j) (sym (ap (λ (w : ℕ). not (eqb w 0)) (listed.marked j h) ∙ mark-some (member j places)))

  other_is : (j : ℕ) → j < at.sizes.nodes → (in_range places j && not (member j places)) ≡ is_other a room.listed first last j
  unfolding is_other
  other_is j h =
      ap₂ (λ (s t : Bool). s && t) (range_is j) (sym (ap (λ (w : ℕ). eqb w 0) (listed.marked j h) ∙ mark_zero (member j places)))

-- ---- the place's neighbours

turned : (r g e : Bool) → (r && (g && e)) ≡ (e && (r && g))
turned true true true = refl
turned true true false = refl
turned true false true = refl
turned true false false = refl
turned false g true = refl
turned false g false = refl

module _ {b a : List ℕ} {at : Layout} {room : OrderRoom} (laid : Laid b a at room) {i v : ℕ} (h : i < at.sizes.nodes) (is : v ≡ get_or a (at.order + i) 0)
    {s e : ℕ} (starts : s ≡ out_start b v) (ends : e ≡ out_start b (v + 1)) where
  reached : (x : ℕ) → x < e - s → place_reached b a room (s + x) < at.sizes.nodes
  reached x g = reached-low laid (s + x) (omega (arith, links-inside laid h is starts ends))

  module _ (first last : ℕ) where
    meets-is : {places : List ℕ} → ListedBy a at room first last places → any (λ j. member j places) (neighbour_places b a places i)
        ≡ any (λ x. is_listed a room.listed first last (place_reached b a room (s + x))) (upto (e - s))
    meets-is {places} listed =
        near laid h is starts ends (λ j. member j places) places
        ∙ any_same _ _ (e - s) (λ x g. listed-is listed (place_reached b a room (s + x)) (reached x g))

    outside-is : {places : List ℕ} → ListedBy a at room first last places → (j : ℕ)
        → member j (outsiders b a places i) ≡ leads_out b a room s first last (e - s) j
    unfolding leads_out
    outside-is {places} listed j =
        any-keep (eqb j) (λ k. not (member k places)) (neighbour_places b a places i)
        ∙ near laid h is starts ends (λ k. not (member k places) && eqb j k) places
        ∙ any_same _ _ (e - s)
        (λ x g. each (place_reached b a room (s + x)) (reached x g))
      where
        each : (k : ℕ) → k < at.sizes.nodes → (in_range places k && (not (member k places) && eqb j k)) ≡ (eqb j k && is_other a room.listed first last k)
        each k g =
            turned (in_range places k) (not (member k places)) (eqb j k) ∙ ap (λ (t : Bool). eqb j k && t) (other_is listed k g)

    module _ {m : List ℕ} (others : OthersMarked b a at room s (e - s) first last m) where
      future_more : {places : List ℕ} (future : List ℕ) → ListedBy a at room first last places → FutureBy a at room future
          → FutureBy m at room (future ++ outsiders b a places i)
      future_more {places} future listed marked j g =
          others.marked j g
          ∙ ap₂ (λ (t : Bool) (w : ℕ). cond t 1 w) (sym (outside-is listed j)) (marked j g)
          ∙ mark_or (member j future) (member j (outsiders b a places i))
          ∙ ap one (sym (any_append (eqb j) future (outsiders b a places i)))

    -- ---- what each return leaves

    module _ {w : ℕ} (own : w ≡ get_or a (room.listed + i) 0) where
      pub passed-listed : (w ≡ 0 → ⊥) → {m : List ℕ} → OthersMarked b a at room s (e - s) first last m
          → PlacePassed b a at room first last i false m
      passed-listed ne {m} others =
          record {
            kept = others.kept;
            follows = λ places future listed marked.
                subst (Follows at room false m)
                (sym (pass_listed b a places i future (mark_yes (member i places) (own ∙ listed.marked i h) ne)))
                (refl, future_more others future listed marked);
          }

      module _ (z : w ≡ 0) {u : ℕ} (ahead : u ≡ get_or a (room.future + i) 0) where
        out : {places : List ℕ} → ListedBy a at room first last places → member i places ≡ false
        out {places} listed = mark_no (member i places) (own ∙ listed.marked i h) z

        pub passed_other : u ≡ 0 → PlacePassed b a at room first last i false a
        passed_other y =
            record {
              kept = within_none;
              follows = λ places future listed marked.
                  subst (Follows at room false a)
                  (sym (pass_other_lem b a places i future (out listed) (mark_no (member i future) (ahead ∙ marked i h) y)))
                  (refl, marked);
            }

        module _ (ne : u ≡ 0 → ⊥) {r : Bool}
            (meets : r ≡ any (λ x. is_listed a room.listed first last (place_reached b a room (s + x))) (upto (e - s))) where
          on : (future : List ℕ) → FutureBy a at room future → member i future ≡ true
          on future marked = mark_yes (member i future) (ahead ∙ marked i h) ne

          feeds : {t : Bool} → r ≡ t → {places : List ℕ} → ListedBy a at room first last places
              → any (λ j. member j places) (neighbour_places b a places i) ≡ t
          feeds is-t listed = meets-is listed ∙ sym meets ∙ is-t

          pub passed_feeding : r ≡ true → PlacePassed b a at room first last i true a
          passed_feeding is-t =
              record {
                kept = within_none;
                follows = λ places future listed marked.
                    subst (Follows at room true a) (sym (pass_feeding b a places i future (out listed) (on future marked) (feeds is-t listed))) refl;
              }

          pub passed-marked : r ≡ false → {m : List ℕ} → OthersMarked b a at room s (e - s) first last m
              → PlacePassed b a at room first last i false m
          passed-marked is_f {m} others =
              record {
                kept = others.kept;
                follows = λ places future listed marked.
                    subst (Follows at room false m) (sym (pass_marked b a places i future (out listed) (on future marked) (feeds is_f listed))) (
                      refl,
                      subst (λ (xs : List ℕ). FutureBy m at room (future ++ xs))
                          (keep-rest (λ j. member j places) (neighbour_places b a places i) (feeds is_f listed)) (future_more others future listed marked),
                    );
              }

-- ---- the range

pass_place_still : (b a m : List ℕ) → order_of b m ≡ order_of b a → (places : List ℕ) (i : ℕ) (future : List ℕ)
    → pass_place b m places i (going future) ≡ pass_place b a places i (going future)
unfolding pass_place neighbour_places
pass_place_still b a m e places i future =
    ap
    (λ (o : List ℕ). pass (keep (in_range places) (map (λ v. number (place_in o v)) (out_neighbours b (get_or o i 0)))))
    e
  where
    pass : List ℕ → Passed
    pass ns =
        cond (member i places) (going (future ++ keep (λ j. not (member j places)) ns))
        (cond (member i future) (cond (any (λ j. member j places) ns) fed_back (going (future ++ ns))) (going future))

-- the places below i are passed, whatever is listed
pub record GoingOn (b a : List ℕ) (at : Layout) (room : OrderRoom) (first last i : ℕ) (m : List ℕ) : Type 0 where
  pub kept : Within room.future at.sizes.nodes a m
  pub going : (places : List ℕ) → ListedBy a at room first last places → StillGoing b a at room i places m

module _ {b a : List ℕ} {at : Layout} {room : OrderRoom} {first last : ℕ} (laid : Laid b a at room) (unpassed : Unpassed a at room first last) where
  pub going_first : GoingOn b a at room first last first a
  going_first =
      record {
        kept = within_none;
        going = λ places listed.
            record {
              future = [];
              state = ap (passed_below b a places) (sym listed.lowest) ∙ starts_at_first b a places;
              marked = unpassed.blank;
            };
      }

  module _ {i : ℕ} {m : List ℕ} (low : i ≤ last) (on : GoingOn b a at room first last i m) where
    within-marks : Within room.listed (marks_size room) a m
    within-marks = within_wider on.kept room.listed (marks_size room) (omega (arith, laid.placed)) (omega (arith, laid.placed))

    pub laid_now : Laid b m at room
    laid_now = laid_still laid within-marks

    same-order : order_of b m ≡ order_of b a
    same-order = sym (tables_still laid.usable (marks_in_scratch laid.placed.fits within-marks)).order

    listed_now : {places : List ℕ} → ListedBy a at room first last places → ListedBy m at room first last places
    listed_now listed =
        record {
          marked = λ j h. on.kept.same (room.listed + j) (inl (omega (arith, laid.placed))) ∙ listed.marked j h;
          lowest = listed.lowest;
          highest = listed.highest;
        }

    module _ {r : Bool} {m' : List ℕ} (passed : PlacePassed b m at room first last i r m') where
      both_kept : Within room.future at.sizes.nodes a m'
      both_kept = within_both on.kept passed.kept

      -- the state that follows
      next-state : (places : List ℕ) (listed : ListedBy a at room first last places)
          → pass_place b m places i (going (on.going places listed).future) ≡ passed_below b a places (suc i)
      unfolding passed_below
      next-state places listed =
          pass_place_still b a m same-order places i (on.going places listed).future
          ∙ ap (pass_place b a places i) (sym (on.going places listed).state)

      follows_now : (places : List ℕ) (listed : ListedBy a at room first last places)
          → Follows at room r m' (passed_below b a places (suc i))
      follows_now places listed =
          subst (Follows at room r m') (next-state places listed)
          (passed.follows places (on.going places listed).future (listed_now listed) (on.going places listed).marked)

      pub going_next : r ≡ false → GoingOn b a at room first last (i + 1) m'
      going_next no-feed =
          record {
            kept = both_kept;
            going = λ places listed. go places (passed_below b a places (suc i)) refl (follows_now places listed);
          }
        where
          go : (places : List ℕ) (s : Passed) → passed_below b a places (suc i) ≡ s → Follows at room r m' s
              → StillGoing b a at room (i + 1) places m'
          go places (going future) e f =
              record { future = future; state = ap (passed_below b a places) (add-one i) ∙ e; marked = f.1 }
          go places fed_back e f = absurd (both (sym f ∙ no-feed))
            where
              both : true ≡ false → ⊥
              both q = let z : ◌≡◌ {A = ℕ} 1 0 = ap one q in omega arith

      pub feeds_back : r ≡ true → PlacesPassed b a at room first last true m'
      unfolding reply_of
      feeds_back yes-feed =
          record {
            kept = both_kept;
            replies = λ places listed. go places (passed_below b a places (suc i)) refl (follows_now places listed);
          }
        where
          go : (places : List ℕ) (s : Passed) → passed_below b a places (suc i) ≡ s → Follows at room r m' s
              → No ≡ reply_of (passed_below b a places (suc last))
          go places (going future) e f = absurd (both (sym f.0 ∙ yes-feed))
            where
              both : false ≡ true → ⊥
              both q = let z : ◌≡◌ {A = ℕ} 0 1 = ap one q in omega arith
          go places fed_back e f = ap reply_of (sym (fed_stays b a places (suc i) (suc last) (omega arith) e))

  pub all-passed : {i : ℕ} {m : List ℕ} → GoingOn b a at room first last i m → i ≤ last + 1 → last < i → PlacesPassed b a at room first last false m
  unfolding reply_of
  all-passed {i} on low high =
      record {
        kept = on.kept;
        replies = λ places listed.
            ap reply_of (sym (on.going places listed).state ∙ ap (passed_below b a places) (omega arith));
      }
