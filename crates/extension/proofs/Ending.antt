-- Extending whole: a node's lines are ready once the records are copied, and what the lines come to is 01's.
-- Rests on records' Reasons, Putting, Taking and tables' Words.
use Prim.Native.Nat.{ℕ, ◌+◌, ◌*◌, ◌≤◌, ◌<◌}
use native.Mathlib.Omega.{arith}
use borrow.Author.Tests.{eqb-true, eq-eqb}
use mathlib.Core.Path.{◌≡◌, refl, sym, ap, ap₂, ◌∙◌, subst}
use mathlib.Core.Logic.{◌⊎◌, inl, inr}
use mathlib.Core.Bool.{Bool, true, false, ◌||◌, or-true}
use mathlib.Core.List.{List, [], ◌∷◌, map}
use lib.ListN.{length, get_or, take}
use lib.Seq.{get_or-take, length-take-le}
use lib.Dec.{eqb}
use Rattle.lists.specs.Lists.{member, times, one}
use Rattle.lists.proofs.Count.{one-small, one-is}
use Rattle.lists.proofs.Places.{times-place, place-new}
use Rattle.lists.proofs.Upto.{length-table, table_same}
use Rattle.paper.specs.Area.{K, position, lines_of, nodes_of}
use Rattle.paper.specs.Intervals.{Interval, Records, records}
use Rattle.paper.specs.Records.{record_at, records_in, extend, extend_lines}
use Rattle.paper.specs.Refusals.{on_line}
use Rattle.paper.specs.Calls.{wrote, said, words_of}
use Rattle.tables.specs.declared.Layout.{Layout}
use Rattle.tables.specs.Usable.{Usable, entries_of}
use Rattle.tables.specs.Recorded.{Recorded, Unmarked, Marked, Slotted}
use Rattle.tables.proofs.Words.{count-few, position-is, lines_are, line_known}
use Rattle.records.specs.declared.layout.LineSlots.{LineSlots}
use Rattle.records.proofs.Reasons.{is-good, same_record, few-records}
use Rattle.std.specs.Prelude.{Option, Some, None}
use Rattle.extension.specs.Extended.{extended_said, records_left, ExtendsTo}
use Rattle.extension.specs.Room.{OwnLines, Ahead, LinesReady, LinesExtended, Copied}
use Rattle.extension.proofs.Putting.{copied_record}
use Rattle.extension.proofs.Taking.{taken_words}

-- ---- lists

-- what stands in a list stands among its values
member-map : (f : ℕ → ℕ) (v : ℕ) (xs : List ℕ) → member v xs ≡ true → member (f v) (map f xs) ≡ true
member-map f v [] e = e
member-map f v (x ∷ xs) e = go (eqb v x) (eqb-true v x) e (member-map f v xs)
  where
    go : (t : Bool) → (t ≡ true → v ≡ x) → (t || member v xs) ≡ true → (member v xs ≡ true → member (f v) (map f xs) ≡ true)
        → (eqb (f v) (f x) || member (f v) (map f xs)) ≡ true
    go true same e rest = ap (λ (s : Bool). s || member (f v) (map f xs)) (eq-eqb (f v) (f x) (ap f (same refl)))
    go false same e rest = ap (λ (s : Bool). eqb (f v) (f x) || s) (rest e) ∙ or-true (eqb (f v) (f x))

-- a number that stands once has one place
two_places : (xs : List ℕ) (i j : ℕ) → i < j → j < length xs → times (get_or xs j 0) xs ≤ 1 → get_or xs i 0 ≡ get_or xs j 0 → ⊥
two_places xs i j o h few e =
    let there : 1 ≤ times (get_or xs j 0) (take j xs) =
    subst (λ (y : ℕ). 1 ≤ times y (take j xs)) (get_or-take j xs i 0 o ∙ e)
    (times-place (take j xs) i (omega (arith, length-take-le j xs (omega arith))))
    in
    omega (arith, there, place-new xs j h few)

module _ {b a : List ℕ} {at : Layout} (usable : Usable b a at) where
  -- ---- the lines of a node

  module _ (v : ℕ) (known : v < at.sizes.nodes) where
    listed : (x : ℕ) → x < K b a → times x (lines_of b a v) ≡ one (member v (nodes_of b a x))
    listed x h = usable.tables.listed v (omega (arith, usable.read.nodes)) x h

    stands : (j : ℕ) → j < length (lines_of b a v) → on_line b a (get_or (lines_of b a v) j 0) (position b a v) ≡ true
    unfolding on_line
    stands j h =
        let x : ℕ = get_or (lines_of b a v) j 0 in
        member-map (position b a) v (nodes_of b a x)
        (one-is (member v (nodes_of b a x))
        (omega (arith, listed x (line_known usable v j known h), times-place (lines_of b a v) j h, one-small (member v (nodes_of b a x)))))

    distinct : (i j : ℕ) → i < j → j < length (lines_of b a v) → get_or (lines_of b a v) i 0 ≡ get_or (lines_of b a v) j 0 → ⊥
    distinct i j o h e =
        let x : ℕ = get_or (lines_of b a v) j 0 in
        two_places (lines_of b a v) i j o h (omega (arith, listed x (line_known usable v j known h), one-small (member v (nodes_of b a x)))) e

  module _ {words : List ℕ} {count : ℕ} (recorded : Recorded b a words count) where
    -- so the copy fits into the room
    pub few_given : count ≤ at.sizes.nodes + at.sizes.links
    few_given = omega (arith, few-records b a words recorded.good, count-few usable)

    -- ---- the records, copied

    module _ {slots : LineSlots} (slotted : Slotted a words count slots.numbers slots.marks (K b a)) {room start : List ℕ} (copied : Copied words (3 * count) room start) where
      same_line : (j : ℕ) → j < count → (record_at start j).line ≡ (record_at words j).line
      same_line j h = ap (λ (r : Interval). r.line) (copied_record count copied j h)

      own-lines : OwnLines b a start count
      own-lines =
          record {
            known = λ j h. omega (arith, same_line j h, (is-good b a words j (recorded.good j h)).known);
            lone = λ i j o h e.
                omega (arith, same_record b a words recorded.good i j (omega arith) h (sym (same_line i (omega arith)) ∙ e ∙ same_line j h));
          }

      line-ahead : (x : ℕ) → x < K b a → Ahead b a slots start count x
      line-ahead x k = record { slot = go (slotted.each x k); high = ends; upright = λ j h e. stands-upright j h }
        where
          go : Unmarked a words count slots.marks x ⊎ Marked a words count slots.numbers slots.marks x
              → Unmarked a start count slots.marks x ⊎ Marked a start count slots.numbers slots.marks x
          go (inl bare) = inl (record { mark = bare.mark; none = λ j h e. bare.none j h (sym (same_line j h) ∙ e) })
          go (inr has) = inr (record { mark = has.mark; known = has.known; line = same_line (get_or a (slots.numbers + x) 0) has.known ∙ has.line })

          ends : (j : ℕ) → j < count → (record_at start j).line ≡ x → on_line b a x (record_at start j).highest ≡ true
          ends j h e =
              subst (λ (y : ℕ). on_line b a y (record_at start j).highest ≡ true) e
              (subst (λ (r : Interval). on_line b a r.line r.highest ≡ true) (sym (copied_record count copied j h)) (is-good b a words j (recorded.good j h)).high)

          stands-upright : (j : ℕ) → j < count → (record_at start j).lowest ≤ (record_at start j).highest
          stands-upright j h = subst (λ (r : Interval). r.lowest ≤ r.highest) (sym (copied_record count copied j h)) (is-good b a words j (recorded.good j h)).upright

      module _ {v : ℕ} (known : v < at.sizes.nodes) {lines : List ℕ} {q : ℕ} (are : lines ≡ entries_of a at.begins at.lines v) (is : q ≡ get_or a (at.positions + v) 0) where
        lines_of_lem : lines_of b a v ≡ lines
        lines_of_lem = lines_are usable v ∙ sym are

        position_of : position b a v ≡ q
        position_of = position-is usable v ∙ sym is

        pub lines-ready : q < 65536 → 3 * (at.sizes.nodes + at.sizes.links) ≤ length room → LinesReady b a at slots lines start count q
        lines-ready word fits = subst (λ (ls : List ℕ). LinesReady b a at slots ls start count q) lines_of_lem ready
          where
            ready : LinesReady b a at slots (lines_of b a v) start count q
            ready =
                record {
                  own = own-lines;
                  ahead = λ j h. line-ahead (get_or (lines_of b a v) j 0) (line_known usable v j known h);
                  known = λ j h. line_known usable v j known h;
                  here = λ j h. subst (λ (s : ℕ). on_line b a (get_or (lines_of b a v) j 0) s ≡ true) position_of (stands v known j h);
                  lone = distinct v known;
                  word = word;
                  fits = omega (arith, copied.long);
                }

        -- ---- the answer

        -- the lines, the position and the copied records are those of 01
        of_node : extend_lines b a q lines (records (records_in start count)) ≡ extend b a (records_in words count) v
        unfolding extend records_in
        of_node =
            ap₂ (λ (s : ℕ) (ls : List ℕ). extend_lines b a s ls (records (records_in start count))) (sym position_of) (sym lines_of_lem)
            ∙ ap (λ (rs : List Interval). extend_lines b a (position b a v) (lines_of b a v) (records rs))
            (table_same (record_at start) (record_at words) count (copied_record count copied))

        pub extended : {r : Option ℕ} {after : List ℕ} → LinesExtended b a lines start count q r after → ExtendsTo b a words count v room r after
        unfolding said words_of records_in
        extended {r} {after} whole =
            record {
              says = meant r ∙ ap said is-extend;
              written = subst (λ (e : Records). take (length (words_of e)) after ≡ words_of e) is-extend (words_there r whole.whole);
              long = whole.long ∙ copied.long;
            }
          where
            is-extend : records_left r after ≡ extend b a (records_in words count) v
            is-extend = whole.says ∙ of_node

            meant : (r : Option ℕ) → extended_said r ≡ said (records_left r after)
            meant (Some c) = ap wrote (sym (length-table (record_at after) c))
            meant None = refl

            words_there : (r : Option ℕ) → ((c : ℕ) → r ≡ Some c → 3 * c ≤ length after)
                → take (length (words_of (records_left r after))) after ≡ words_of (records_left r after)
            words_there (Some c) fits = taken_words after c (fits c refl)
            words_there None fits = refl
