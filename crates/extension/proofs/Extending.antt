-- Extending on one line: by a new record where the line has no mark, else by the record that its slot tells.
-- Rests on Lines, on on_line's Along (a line handed on) and on records' Few (no more records than lines).
use Prim.Native.Nat.{ℕ, ◌+◌, ◌-◌, ◌*◌, ◌≤◌, ◌<◌}
use native.Mathlib.Decide.{ℕ_discrete}
use native.Mathlib.Numerals.{add-one}
use native.Mathlib.Omega.{arith}
use borrow.Author.Tests.{not-true, not-false}
use mathlib.Core.Path.{◌≡◌, sym, ap, ap₂, ◌∙◌, subst, subst₂}
use mathlib.Core.Logic.{◌⊎◌, inl, inr}
use mathlib.Core.Bool.{Bool, true, false, not}
use mathlib.Core.List.{List, [], ◌∷◌, ◌++◌, map}
use lib.ListN.{length, get_or, take, drop}
use Rattle.lists.specs.Lists.{upto}
use Rattle.lists.proofs.Upto.{table-suc, table_same}
use Rattle.paper.specs.Area.{K}
use Rattle.paper.specs.Intervals.{Interval, records}
use Rattle.paper.specs.Records.{record_at, records_in, along}
use Rattle.paper.specs.Refusals.{on_line}
use Rattle.tables.specs.declared.Layout.{Layout}
use Rattle.tables.specs.Usable.{Usable}
use Rattle.tables.specs.Recorded.{Unmarked, Marked}
use Rattle.tables.proofs.Words.{count-few}
use Rattle.lookup.specs.Line.{Line, positions_on}
use Rattle.on_line.specs.Along.{nodes_along, positions_along}
use Rattle.on_line.proofs.Along.{handed, along-is, line_at}
use Rattle.records.specs.declared.layout.LineSlots.{LineSlots}
use Rattle.records.proofs.Few.{no_more, room-left}
use Rattle.extension.specs.Room.{record_of, Put, Growing, Grew, OwnLines, LineReady, Changed, LineExtended}
use Rattle.std.specs.Prelude.{Some, None}
use Rattle.extension.proofs.Lines.{extend-new, extend_at, extend_not}

-- no more records than lines
pub few-made : {b a : List ℕ} {at : Layout} → Usable b a at → {room : List ℕ} {made : ℕ} → OwnLines b a room made → made ≤ at.sizes.nodes + at.sizes.links
few-made {b} {a} usable {room} {made} own =
    omega (arith, no_more (λ j. (record_at room j).line) (K b a) made own.known own.lone, count-few usable)

module _ {b a : List ℕ} {at : Layout} (usable : Usable b a at) {slots : LineSlots} {room : List ℕ} {made q x : ℕ} (ready : LineReady b a at slots room made q x) {mark : ℕ} (is : mark ≡ get_or a (slots.marks + x) 0) where
  -- ---- no mark

  module _ (clear : mark ≡ 0) where
    free : (j : ℕ) → j < made → (record_at room j).line ≡ x → ⊥
    free = go ready.ahead.slot
      where
        go : Unmarked a room made slots.marks x ⊎ Marked a room made slots.numbers slots.marks x → (j : ℕ) → j < made → (record_at room j).line ≡ x → ⊥
        go (inl bare) = bare.none
        go (inr has) = absurd (omega (arith, has.mark))

    pub room-there : 3 * made + 2 < length room
    room-there =
        omega (
          arith,
          room-left (λ j. (record_at room j).line) (K b a) made ready.own.known ready.own.lone x ready.known free,
          count-few usable,
          ready.fits,
        )

    pub new_record : {after : List ℕ} → Put room made (record_of x q q) after → LineExtended b a room made q x (Some (made + 1)) after
    unfolding records_in
    new_record {after} put =
        record {
          says =
              ap records (
              ap (λ (c : ℕ). map (record_at after) (upto c)) (add-one made) ∙ table-suc (record_at after) made
              ∙ ap₂ (λ (rs : List Interval) (r : Interval). rs ++ (r ∷ []))
              (table_same (record_at after) (record_at room) made (λ j h. put.others j (λ e. omega arith))) put.own
              )
              ∙ sym (extend-new b a q x (record_at room) 0 made (λ j low high. free j (omega arith)));
          changed = λ count e. made_one count (cc);
          long = put.long;
        }
      where
        old : (j : ℕ) → j < made → record_at after j ≡ record_at room j
        old j h = put.others j (λ e. omega arith)

        made_one : (count : ℕ) → made + 1 ≡ count → Changed room made x after count
        made_one count e =
            record {
              least = omega arith;
              most = omega arith;
              lines = λ j h. ap (λ (r : Interval). r.line) (old j h);
              others = λ j h ne. old j h;
              new = λ h. ap (λ (r : Interval). r.line) put.own;
              free = λ h. free;
            }

  -- ---- a mark

  module _ (set : mark ≡ 0 → ⊥) {slot : ℕ} (which : slot ≡ get_or a (slots.numbers + x) 0) where
    has : Marked a room made slots.numbers slots.marks x
    has = go ready.ahead.slot
      where
        go : Unmarked a room made slots.marks x ⊎ Marked a room made slots.numbers slots.marks x → Marked a room made slots.numbers slots.marks x
        go (inl bare) = absurd (set (is ∙ bare.mark))
        go (inr told) = told

    slot-made : slot < made
    slot-made = omega (arith, has.known)

    slot-line : (record_at room slot).line ≡ x
    slot-line = ap (λ (s : ℕ). (record_at room s).line) which ∙ has.line

    earlier : (j : ℕ) → 0 ≤ j → j < slot → (record_at room j).line ≡ x → ⊥
    earlier j low h e = ready.own.lone j slot h slot-made (e ∙ sym slot-line)

    -- the line's nodes and the positions, as they are handed on
    module _ {nodes : List ℕ} (are : nodes ≡ nodes_along a at x) where
      abbrev positions : List ℕ
      positions = take (at.positions + at.sizes.nodes - at.positions) (drop at.positions a)

      line-is : positions_on nodes positions ≡ along b a x
      unfolding positions_along
      line-is = ap₂ positions_on are (handed a at.positions at.sizes.nodes) ∙ along-is usable x ready.known

      growing : Growing (along b a x) room slot q
      unfolding on_line
      growing =
          record {
            whole = omega (arith, slot-made, few-made usable ready.own, ready.fits);
            upright = ready.ahead.upright slot slot-made slot-line;
            high = ready.ahead.high slot slot-made slot-line;
            here = ready.here;
            word = ready.word;
          }

      pub can_grow : Line nodes positions × Growing (positions_on nodes positions) room slot q
      can_grow =
          (subst₂ Line (sym are) (sym (handed a at.positions at.sizes.nodes)) (line_at usable x ready.known).line, subst (λ (line : List ℕ). Growing line room slot q) (sym line-is) growing)

      module _ {grown : Bool} {after : List ℕ} (grew : Grew (positions_on nodes positions) room slot q grown after) where
        grew_along : Grew (along b a x) room slot q grown after
        grew_along = subst (λ (line : List ℕ). Grew line room slot q grown after) line-is grew

        pub grown_record : not grown ≡ false → LineExtended b a room made q x (Some made) after
        unfolding records_in
        grown_record e =
            record {
              says = sym (extend_at b a q x (record_at room) slot slot-line (record_at after) grew.others (grew_along.grows (not-false grown e)) 0 made (omega arith) (omega (arith, slot-made)) earlier);
              changed = λ count f. made-same count (cc);
              long = grew.long;
            }
          where
            lines_same : (j : ℕ) → Dec (j ≡ slot) → (record_at after j).line ≡ (record_at room j).line
            lines_same j (yes o) = ap (λ (k : ℕ). (record_at after k).line) o ∙ grew.kept ∙ ap (λ (k : ℕ). (record_at room k).line) (sym o)
            lines_same j (no ne) = ap (λ (r : Interval). r.line) (grew.others j ne)

            made-same : (count : ℕ) → made ≡ count → Changed room made x after count
            made-same count f =
                record {
                  least = omega arith;
                  most = omega arith;
                  lines = λ j h. lines_same j (ℕ_discrete j slot);
                  others = λ j h ne. grew.others j (λ o. ne (ap (λ (k : ℕ). (record_at room k).line) o ∙ slot-line));
                  new = λ h. absurd (omega arith);
                  free = λ h. absurd (omega arith);
                }

        pub stopped_record : not grown ≡ true → LineExtended b a room made q x None after
        unfolding records_in
        stopped_record e =
            record {
              says = sym (extend_not b a q x (record_at room) slot slot-line (grew_along.stops (not-true grown e)) 0 made (omega arith) (omega (arith, slot-made)) earlier);
              changed = λ count f. absurd (let z : ◌≡◌ {A = ℕ} 0 1 = cc in omega arith);
              long = grew.long;
            }
