-- A position added to a line, in words: a line that was never added gets the next record, and any other has its record widened.
-- Rests on Buffer and on accepted_theory's laws of `add`.
use Prim.Native.Nat.{ℕ, ◌+◌, ◌*◌, ◌≤◌, ◌<◌}
use native.Mathlib.Decide.{ℕ_discrete, dec_lt}
use native.Mathlib.Omega.{arith}
use mathlib.Core.Path.{◌≡◌, refl, sym, ap, ◌∙◌, subst}
use mathlib.Core.List.{List, [], ◌∷◌, ◌++◌, map-append}
use lib.ListN.{length, get_or, set, length-append, length-map, length-set, get_or-append}
use lib.Seq.{length-sets, get_or-append_seam, get_or-set_same, get_or-set_other, map-set_same}
use lib.Dec.{eqb}
use borrow.Author.Tests.{eqb-true}
use Rattle.lists.specs.Lists.{one, times}
use Rattle.lists.specs.Found.{Found, absent, at}
use Rattle.lists.proofs.Count.{one_eq, one_ne}
use Rattle.lists.proofs.First.{FirstOf}
use Rattle.lists.proofs.Places.{times-place, place-known}
use Rattle.paper.specs.Intervals.{Interval}
use Rattle.paper.specs.Records.{record_at}
use Rattle.accepted_theory.specs.collecting.SmallMap.{Held, widened, add}
use Rattle.accepted_theory.specs.collecting.Collected.{count_on, fresh, lines_in, slot}
use Rattle.accepted_theory.proofs.collecting.Add.{add-new, add-there, slot_absent, slot_at}
use Rattle.accepted_theory.proofs.collecting.Sized.{count_add, count_nowhere, sized-add, sized-room}
use Rattle.tables.proofs.Within.{within_none, within-set}
use Rattle.intervals.specs.declared.layout.MapRoom.{MapRoom}
use Rattle.intervals.specs.Holds.{Adding, Became, Holds, interval_of, put_record, widened_to}
use Rattle.intervals.proofs.Buffer.{record_put, record_other}

-- the area with one more on a line's count
abbrev counted_up : MapRoom → List ℕ → ℕ → List ℕ
counted_up room a line = set a (room.counts + line) (get_or a (room.counts + line) 0 + 1)

module _ (room : MapRoom) (a rs : List ℕ) (made line pos : ℕ) (apart : room.slots + room.lines ≤ room.counts)
    (fits : room.counts + room.lines ≤ length a) (known : line < room.lines) where
  -- one more on the line's count, in any area that has the same counts
  count_more : (hs : List Held) → Holds hs room a rs made → (m : List ℕ) → ((x : ℕ) → x < room.lines → get_or m (room.counts + x) 0 ≡ get_or (counted_up room a line) (room.counts + x) 0)
      → (x : ℕ) → x < room.lines → get_or m (room.counts + x) 0 ≡ count_on (add pos line hs) x
  count_more hs holds m same x h = same x h ∙ here (ℕ_discrete x line) ∙ sym (count_add pos line hs x)
    where
      here : Dec (x ≡ line) → get_or (counted_up room a line) (room.counts + x) 0 ≡ count_on hs x + one (eqb x line)
      here (yes e) =
          ap (λ (y : ℕ). get_or (counted_up room a line) (room.counts + y) 0) e
          ∙ get_or-set_same a (room.counts + line) (get_or a (room.counts + line) 0 + 1) 0 (omega arith)
          ∙ omega (arith, holds.counted line known, ap (count_on hs) e, one_eq x line e)
      here (no ne) =
          get_or-set_other a (room.counts + line) (room.counts + x) (get_or a (room.counts + line) 0 + 1) 0 (λ e. ne (omega arith))
          ∙ omega (arith, holds.counted x h, one_ne x line ne)

  line_known : (hs : List Held) → Holds hs room a rs made → (i : ℕ) → i < length hs → get_or (lines_in hs) i 0 < room.lines
  line_known hs holds i h =
      place-known room.lines (lines_in hs) i holds.sized.below (omega (arith, length-map hs (λ x. x.interval.line)))

  -- ---- a line that was never added

  module _ (first : get_or a (room.counts + line) 0 ≡ 0) where
    abbrev fresh-area : List ℕ
    fresh-area = set (counted_up room a line) (room.slots + line) made

    abbrev fresh-records : List ℕ
    fresh-records = put_record rs made (interval_of line pos pos)

    module _ (hs : List Held) (holds : Holds hs room a rs made) where
      never : times line (lines_in hs) ≡ 0
      never = omega (arith, holds.sized.some line, holds.counted line known)

      grown : add pos line hs ≡ hs ++ (fresh pos line ∷ [])
      grown = add-new pos line hs never

      grown-length : length (add pos line hs) ≡ made + 1
      grown-length = ap length grown ∙ length-append hs (fresh pos line ∷ []) ∙ ap (λ (n : ℕ). n + 1) holds.many

      grown-lines : lines_in (add pos line hs) ≡ lines_in hs ++ (line ∷ [])
      grown-lines = ap lines_in grown ∙ map-append (λ h. h.interval.line) hs (fresh pos line ∷ [])

      lines-many : length (lines_in hs) ≡ length hs
      lines-many = length-map hs (λ h. h.interval.line)

      new-room : made + 1 ≤ room.lines
      new-room = omega (arith, grown-length, sized-room (sized-add holds.sized pos line known))

      new-holds : 3 * room.lines ≤ length rs → Holds (add pos line hs) room fresh-area fresh-records (made + 1)
      new-holds roomy =
          record {
            many = grown-length;
            records = λ i h. record_is i (dec_lt i made) (omega (arith, grown-length));
            slotted = λ i h. slot_is i (dec_lt i made) (omega (arith, grown-length));
            counted = count_more hs holds fresh-area
                (λ x h. get_or-set_other (counted_up room a line) (room.slots + line) (room.counts + x) made 0 (λ e. omega arith));
            sized = sized-add holds.sized pos line known;
          }
        where
          last : (i : ℕ) → (i < made → ⊥) → i < made + 1 → i ≡ made
          last i low high = omega arith

          record_is : (i : ℕ) → Dec (i < made) → i < made + 1 → record_at fresh-records i ≡ (get_or (add pos line hs) i (fresh 0 0)).interval
          record_is i (yes l) h =
              record_other rs made (interval_of line pos pos) i (λ e. omega arith) ∙ holds.records i (omega (arith, holds.many))
              ∙ ap (λ (x : Held). x.interval)
              (sym (ap (λ (xs : List Held). get_or xs i (fresh 0 0)) grown ∙ get_or-append hs (fresh pos line ∷ []) (fresh 0 0) i (omega (arith, holds.many))))
          record_is i (no l) h =
              ap (record_at fresh-records) (last i l h) ∙ record_put rs made (interval_of line pos pos) (omega (arith, new-room))
              ∙ ap (λ (x : Held). x.interval)
              (sym
              (ap (λ (xs : List Held). get_or xs i (fresh 0 0)) grown
              ∙ ap (λ (j : ℕ). get_or (hs ++ (fresh pos line ∷ [])) j (fresh 0 0)) (last i l h ∙ sym holds.many)
              ∙ get_or-append_seam hs (fresh pos line) [] (fresh 0 0)))

          slot_is : (i : ℕ) → Dec (i < made) → i < made + 1 → get_or fresh-area (room.slots + get_or (lines_in (add pos line hs)) i 0) 0 ≡ i
          slot_is i (yes l) h =
              let inside : i < length hs = omega (arith, holds.many) in
              let other : get_or (lines_in hs) i 0 ≡ line → ⊥ = λ e. omega (
                arith,
                never,
                times-place (lines_in hs) i (omega (arith, lines-many)),
                ap (λ (x : ℕ). times x (lines_in hs)) e,
              )
              in
              ap (λ (xs : List ℕ). get_or fresh-area (room.slots + get_or xs i 0) 0) grown-lines
              ∙ ap (λ (x : ℕ). get_or fresh-area (room.slots + x) 0) (get_or-append (lines_in hs) (line ∷ []) 0 i (omega (arith, lines-many)))
              ∙ get_or-set_other (counted_up room a line) (room.slots + line) (room.slots + get_or (lines_in hs) i 0) made 0 (λ e. other (omega arith))
              ∙ get_or-set_other a (room.counts + line) (room.slots + get_or (lines_in hs) i 0) (get_or a (room.counts + line) 0 + 1) 0
              (λ e. omega (arith, line_known hs holds i inside))
              ∙ holds.slotted i inside
          slot_is i (no l) h =
              ap (λ (xs : List ℕ). get_or fresh-area (room.slots + get_or xs i 0) 0) grown-lines
              ∙ ap (λ (j : ℕ). get_or fresh-area (room.slots + get_or (lines_in hs ++ (line ∷ [])) j 0) 0) (last i l h ∙ sym holds.many ∙ sym lines-many)
              ∙ ap (λ (x : ℕ). get_or fresh-area (room.slots + x) 0) (get_or-append_seam (lines_in hs) line [] 0)
              ∙ get_or-set_same (counted_up room a line) (room.slots + line) made 0 (omega (arith, length-set a (room.counts + line) (get_or a (room.counts + line) 0 + 1)))
              ∙ sym (last i l h)

  -- ---- a line that was added before

  module _ (hs : List Held) (holds : Holds hs room a rs made) (i : ℕ) (found : slot hs line ≡ at i) where
    stands : FirstOf (λ j. eqb (get_or (lines_in hs) j 0) line) (length (lines_in hs)) i
    stands = slot_at hs line i found

    inside : i < length hs
    inside = omega (arith, stands.known, length-map hs (λ h. h.interval.line))

    line-is : get_or (lines_in hs) i 0 ≡ line
    line-is = eqb-true (get_or (lines_in hs) i 0) line stands.passes

    place_is : get_or a (room.slots + line) 0 ≡ i
    place_is = ap (λ (x : ℕ). get_or a (room.slots + x) 0) (sym line-is) ∙ holds.slotted i inside

    grown-there : add pos line hs ≡ set hs i (widened (get_or hs i (fresh 0 0)) pos)
    grown-there = add-there pos line hs i (fresh 0 0) stands

    long-there : length (add pos line hs) ≡ length hs
    long-there = ap length grown-there ∙ length-set hs i (widened (get_or hs i (fresh 0 0)) pos)

    lines-there : lines_in (add pos line hs) ≡ lines_in hs
    unfolding widened
    lines-there =
        ap lines_in grown-there ∙ map-set_same (λ h. h.interval.line) hs i (widened (get_or hs i (fresh 0 0)) pos) (fresh 0 0) refl

    widened_is : 3 * room.lines ≤ length rs → (j : ℕ) → j ≡ i → record_at (put_record rs i (widened_to pos (record_at rs i))) j ≡ (get_or (add pos line hs) j (fresh 0 0)).interval
    unfolding widened
    widened_is roomy j e =
        ap (record_at (put_record rs i (widened_to pos (record_at rs i)))) e
        ∙ record_put rs i (widened_to pos (record_at rs i)) (omega (arith, inside, sized-room holds.sized))
        ∙ ap (widened_to pos) (holds.records i inside)
        ∙ ap (λ (x : Held). x.interval)
        (sym
        (ap (λ (xs : List Held). get_or xs j (fresh 0 0)) grown-there
        ∙ ap (λ (x : ℕ). get_or (set hs i (widened (get_or hs i (fresh 0 0)) pos)) x (fresh 0 0)) e
        ∙ get_or-set_same hs i (widened (get_or hs i (fresh 0 0)) pos) (fresh 0 0) inside))

    there-holds : 3 * room.lines ≤ length rs
        → Holds (add pos line hs) room (counted_up room a line) (put_record rs i (widened_to pos (record_at rs i))) made
    there-holds roomy =
        record {
          many = long-there ∙ holds.many;
          records = λ j h. record_is j (ℕ_discrete j i) (omega (arith, long-there));
          slotted = λ j h. slot_is j (omega (arith, long-there));
          counted = count_more hs holds (counted_up room a line) (λ x h. refl);
          sized = sized-add holds.sized pos line known;
        }
      where
        ws : List ℕ
        ws = put_record rs i (widened_to pos (record_at rs i))

        record_is : (j : ℕ) → Dec (j ≡ i) → j < length hs → record_at ws j ≡ (get_or (add pos line hs) j (fresh 0 0)).interval
        record_is j (yes e) h = widened_is roomy j e
        record_is j (no ne) h =
            record_other rs i (widened_to pos (record_at rs i)) j ne ∙ holds.records j h
            ∙ ap (λ (x : Held). x.interval)
            (sym (ap (λ (xs : List Held). get_or xs j (fresh 0 0)) grown-there ∙ get_or-set_other hs i j (widened (get_or hs i (fresh 0 0)) pos) (fresh 0 0) ne))

        slot_is : (j : ℕ) → j < length hs → get_or (counted_up room a line) (room.slots + get_or (lines_in (add pos line hs)) j 0) 0 ≡ j
        slot_is j h =
            ap (λ (xs : List ℕ). get_or (counted_up room a line) (room.slots + get_or xs j 0) 0) lines-there
            ∙ get_or-set_other a (room.counts + line) (room.slots + get_or (lines_in hs) j 0) (get_or a (room.counts + line) 0 + 1) 0
            (λ e. omega (arith, line_known hs holds j h))
            ∙ holds.slotted j h

-- ---- what adding needs and what it comes to

module _ {room : MapRoom} {a rs : List ℕ} {made line : ℕ} (pre : Adding room a rs made line) where
  abbrev held : List Held
  held = pre.holding.held

  apart : room.slots + room.lines ≤ room.counts
  apart = pre.holding.apart

  pub fresh-room : get_or a (room.counts + line) 0 ≡ 0 → made + 1 ≤ room.lines
  fresh-room first = new-room room a rs made line 0 pre.holding.apart pre.holding.inside pre.known first held pre.holding.holds

  pub fresh-became : (pos : ℕ) → get_or a (room.counts + line) 0 ≡ 0 → {ws : List ℕ} → ws ≡ put_record rs made (interval_of line pos pos)
      → Became (add pos line) room a rs made (set (counted_up room a line) (room.slots + line) made) ws (made + 1)
  fresh-became pos first e =
      record {
        kept = within-set
            (within-set within_none (room.counts + line) (get_or a (room.counts + line) 0 + 1) (omega (arith, apart)) (omega (arith, apart, pre.known)))
            (room.slots + line) made (omega arith) (omega (arith, apart, pre.known));
        long = ap length e ∙ length-sets rs (3 * made) (line ∷ (pos ∷ (pos ∷ [])));
        holds = λ hs holds.
            subst (λ (ws : List ℕ). Holds (add pos line hs) room (set (counted_up room a line) (room.slots + line) made) ws (made + 1)) (sym e)
            (new-holds room a rs made line pos pre.holding.apart pre.holding.inside pre.known first hs holds pre.holding.roomy);
      }

  -- a line that was added has a record
  found : (hs : List Held) → Holds hs room a rs made → (get_or a (room.counts + line) 0 ≡ 0 → ⊥) → (s : Found) → slot hs line ≡ s → (i : ℕ) × (slot hs line ≡ at i)
  found hs holds some absent e =
      absurd (some (holds.counted line pre.known ∙ count_nowhere hs line (slot_absent hs line e)))
  found hs holds some (at i) e = (i, e)

  -- its slot is not the word that was written
  slot_kept : get_or (counted_up room a line) (room.slots + line) 0 ≡ get_or a (room.slots + line) 0
  slot_kept =
      get_or-set_other a (room.counts + line) (room.slots + line) (get_or a (room.counts + line) 0 + 1) 0 (λ e. omega (arith, apart, pre.known))

  pub there-room : (get_or a (room.counts + line) 0 ≡ 0 → ⊥) → {i : ℕ} → i ≡ get_or (counted_up room a line) (room.slots + line) 0 → i < room.lines
  there-room some {i} is = go (found held pre.holding.holds some (slot held line) refl)
    where
      go : (j : ℕ) × (slot held line ≡ at j) → i < room.lines
      go f =
          omega (
            arith,
            slot_kept,
            place_is room a rs made line 0 pre.holding.apart pre.holding.inside pre.known held pre.holding.holds f.0 f.1,
            inside room a rs made line 0 pre.holding.apart pre.holding.inside pre.known held pre.holding.holds f.0 f.1,
            sized-room pre.holding.holds.sized,
          )

  pub there-became : (pos : ℕ) → (get_or a (room.counts + line) 0 ≡ 0 → ⊥) → {i : ℕ} → i ≡ get_or (counted_up room a line) (room.slots + line) 0
      → {ws : List ℕ} → ws ≡ put_record rs i (widened_to pos (record_at rs i)) → Became (add pos line) room a rs made (counted_up room a line) ws made
  there-became pos some {i} is {ws} e =
      record {
        kept = within-set within_none (room.counts + line) (get_or a (room.counts + line) 0 + 1) (omega (arith, apart)) (omega (arith, apart, pre.known));
        long = ap length e ∙ length-sets rs (3 * i) (widest.line ∷ (widest.lowest ∷ (widest.highest ∷ [])));
        holds = λ hs holds. go hs holds (found hs holds some (slot hs line) refl);
      }
    where
      widest : Interval
      widest = widened_to pos (record_at rs i)

      go : (hs : List Held) → Holds hs room a rs made → (j : ℕ) × (slot hs line ≡ at j)
          → Holds (add pos line hs) room (counted_up room a line) ws made
      go hs holds f =
          let here : f.0 ≡ i =
          sym (is ∙ slot_kept ∙ place_is room a rs made line pos pre.holding.apart pre.holding.inside pre.known hs holds f.0 f.1) in
          subst (λ (us : List ℕ). Holds (add pos line hs) room (counted_up room a line) us made)
          (ap (λ (j : ℕ). put_record rs j (widened_to pos (record_at rs j))) here ∙ sym e)
          (there-holds room a rs made line pos pre.holding.apart pre.holding.inside pre.known hs holds f.0 f.1 pre.holding.roomy)
