-- Going through the records: what a line's mark says of the records before, and what stands once a good record's line is marked.
-- Rests on Reasons, Refusing, tables' Within and accepted_theory (the words in use alone decide).
use Prim.Native.Nat.{ℕ, ◌+◌, ◌*◌, ◌≤◌, ◌<◌}
use native.Mathlib.Decide.{ℕ_discrete}
use native.Mathlib.Omega.{arith}
use borrow.Author.Count.{below_more}
use borrow.Author.Tests.{not-true, not-false}
use mathlib.Core.Path.{◌≡◌, refl, sym, ap, ◌∙◌, subst}
use mathlib.Core.Logic.{◌⊎◌, inl, inr}
use mathlib.Core.Bool.{Bool, true, false, not}
use mathlib.Core.List.{List}
use lib.ListN.{length, get_or, set, replicate, length-set, length-replicate}
use lib.Seq.{sets, get_or-set_same, get_or-set_other}
use Rattle.lists.proofs.Sections.{get_or-sets_in}
use Rattle.lists.proofs.Upto.{get_or-zeros}
use Rattle.paper.specs.Area.{K}
use Rattle.paper.specs.Records.{record_at}
use Rattle.paper.specs.Refusals.{used_before, bad_record}
use Rattle.accepted_theory.specs.SameTables.{SameTables}
use Rattle.accepted_theory.proofs.Records.{bad_record-same}
use Rattle.accepted_theory.proofs.Refusals.{not_passed}
use Rattle.refusals.specs.declared.Refusal.TheVariants.{BadRecord}
use Rattle.tables.specs.declared.Layout.{Layout}
use Rattle.tables.specs.Usable.{Usable, Scratched}
use Rattle.tables.specs.Recorded.{Unmarked, Marked, Slotted}
use Rattle.tables.proofs.Within.{within_none, within_both, within-set, within-sets}
use Rattle.tables.proofs.Words.{count-few}
use Rattle.tables.proofs.Usable.{tables_still, still_usable}
use Rattle.records.specs.Slots.{SlotsFit}
use Rattle.records.specs.declared.layout.LineSlots.{LineSlots}
use Rattle.records.specs.Tested.{Passed, RecordTested, AllTested}
use Rattle.std.specs.Prelude.{Ok, Err}
use Rattle.records.proofs.Reasons.{used, unused, is-good, few-records}
use Rattle.records.proofs.Refusing.{first_bad, none_bad}

-- ---- one record

module _ {b a : List ℕ} {at : Layout} {slots : LineSlots} (usable : Usable b a at) {words : List ℕ} {i : ℕ} (before : Passed b a slots words i) where
  module _ {x mark : ℕ} (known : x < K b a) (is : mark ≡ get_or a (slots.marks + x) 0) where
    pub mark_set : (mark ≡ 0 → ⊥) → used_before words i x ≡ true
    mark_set ne = go (before.slotted.each x known)
      where
        go : Unmarked a words i slots.marks x ⊎ Marked a words i slots.numbers slots.marks x → used_before words i x ≡ true
        go (inl free) = absurd (ne (is ∙ free.mark))
        go (inr has) = used words i x (get_or a (slots.numbers + x) 0) has.known has.line

    pub mark-clear : mark ≡ 0 → used_before words i x ≡ false
    mark-clear e = go (before.slotted.each x known)
      where
        go : Unmarked a words i slots.marks x ⊎ Marked a words i slots.numbers slots.marks x → used_before words i x ≡ false
        go (inl free) = unused words i x free.none
        go (inr has) = absurd (omega (arith, has.mark))

  -- at most a record for each line
  pub few-passed : i ≤ at.sizes.links + at.sizes.nodes
  few-passed = omega (arith, few-records b a words before.good, count-few usable)

  module _ {r : Bool} (said : r ≡ bad_record b a words i) where
    pub bad_left : r ≡ true → RecordTested b a at slots words i false a
    bad_left e =
        record { said = sym (ap not (sym said ∙ e)); slotted = λ f. absurd (let z : ◌≡◌ {A = ℕ} 0 1 = cc in omega arith); kept = within_none }

    module _ (e : r ≡ false) {x : ℕ} (line : x ≡ get_or words (3 * i) 0) where
      pub good-line : x < K b a
      unfolding record_at
      good-line = omega (arith, (is-good b a words i (sym said ∙ e)).known)

      marks-slotted : SlotsFit at slots → Slotted (set (set a (slots.numbers + x) i) (slots.marks + x) 1) words (i + 1) slots.numbers slots.marks (K b a)
      unfolding record_at
      marks-slotted fit = record { each = λ y h. go y h (ℕ_discrete y x) (before.slotted.each y h) }
        where
          m : List ℕ
          m = set (set a (slots.numbers + x) i) (slots.marks + x) 1

          marks-fit : slots.marks + x < length a
          marks-fit = omega (arith, fit, good-line, count-few usable, usable.placed.after-scratch, usable.room)

          own-mark : get_or m (slots.marks + x) 0 ≡ 1
          own-mark =
              get_or-set_same (set a (slots.numbers + x) i) (slots.marks + x) 1 0 (omega (arith, marks-fit, length-set a (slots.numbers + x) i))

          own-slot : get_or m (slots.numbers + x) 0 ≡ i
          own-slot =
              get_or-set_other (set a (slots.numbers + x) i) (slots.marks + x) (slots.numbers + x) 1 0 (λ o. omega (arith, fit, good-line, count-few usable))
              ∙ get_or-set_same a (slots.numbers + x) i 0 (omega (arith, fit, marks-fit))

          other_mark : (y : ℕ) → (y ≡ x → ⊥) → get_or m (slots.marks + y) 0 ≡ get_or a (slots.marks + y) 0
          other_mark y ne =
              get_or-set_other (set a (slots.numbers + x) i) (slots.marks + x) (slots.marks + y) 1 0 (λ o. ne (omega arith))
              ∙ get_or-set_other a (slots.numbers + x) (slots.marks + y) i 0 (λ o. omega (arith, fit, good-line, count-few usable))

          other_slot : (y : ℕ) → y < K b a → (y ≡ x → ⊥) → get_or m (slots.numbers + y) 0 ≡ get_or a (slots.numbers + y) 0
          other_slot y h ne =
              get_or-set_other (set a (slots.numbers + x) i) (slots.marks + x) (slots.numbers + y) 1 0 (λ o. omega (arith, fit, h, count-few usable))
              ∙ get_or-set_other a (slots.numbers + x) (slots.numbers + y) i 0 (λ o. ne (omega arith))

          own : Marked m words (i + 1) slots.numbers slots.marks x
          own =
              record {
                mark = own-mark;
                known = omega (arith, own-slot);
                line = ap (λ (j : ℕ). get_or words (3 * j) 0) own-slot ∙ sym line;
              }

          go : (y : ℕ) → y < K b a → Dec (y ≡ x) → Unmarked a words i slots.marks y ⊎ Marked a words i slots.numbers slots.marks y
              → Unmarked m words (i + 1) slots.marks y ⊎ Marked m words (i + 1) slots.numbers slots.marks y
          go y h (yes o) told = inr (subst (Marked m words (i + 1) slots.numbers slots.marks) (sym o) own)
          go y h (no ne) (inl free) =
              inl (
              record {
                mark = other_mark y ne ∙ free.mark;
                none = below_more _ i free.none (λ o. ne (sym o ∙ sym line));
              }
              )
          go y h (no ne) (inr has) =
              inr (
              record {
                mark = other_mark y ne ∙ has.mark;
                known = omega (arith, other_slot y h ne, has.known);
                line = ap (λ (j : ℕ). get_or words (3 * j) 0) (other_slot y h ne) ∙ has.line;
              }
              )

      pub good_left : SlotsFit at slots → RecordTested b a at slots words i true (set (set a (slots.numbers + x) i) (slots.marks + x) 1)
      good_left fit =
          record {
            said = sym (ap not (sym said ∙ e));
            slotted = λ f. marks-slotted fit;
            kept =
                within-set (within-set within_none (slots.numbers + x) i (omega (arith, fit)) (omega (arith, fit, good-line, count-few usable))) (slots.marks + x) 1
                (omega (arith, fit))
                (omega (arith, fit, good-line, count-few usable));
          }

-- ---- one record after the other

module _ {b a : List ℕ} {at : Layout} {slots : LineSlots} (usable : Usable b a at) where
  -- no line is marked
  module _ (fit : SlotsFit at slots) {m : List ℕ} (filled : m ≡ sets a slots.marks (replicate (at.sizes.nodes + at.sizes.links) 0)) where
    pub cleared-kept : Scratched at a m
    cleared-kept =
        subst (Scratched at a) (sym filled)
        (within-sets within_none slots.marks (replicate (at.sizes.nodes + at.sizes.links) 0) (omega (arith, fit)) (omega (arith, fit, length-replicate {A = ℕ} (at.sizes.nodes + at.sizes.links) 0)))

    pub none_passed : (words : List ℕ) → Passed b m slots words 0
    none_passed words =
        record {
          good = λ j h. absurd (omega arith);
          slotted = record { each = λ x h. inl (record { mark = clear x h; none = λ j o. absurd (omega arith) }) };
        }
      where
        clear : (x : ℕ) → x < K b m → get_or m (slots.marks + x) 0 ≡ 0
        clear x h =
            ap (λ (ws : List ℕ). get_or ws (slots.marks + x) 0) filled
            ∙ get_or-sets_in a slots.marks (replicate (at.sizes.nodes + at.sizes.links) 0) x 0
            (omega (arith, length-replicate {A = ℕ} (at.sizes.nodes + at.sizes.links) 0, count-few (still_usable usable cleared-kept)))
            (omega (arith, fit, length-replicate {A = ℕ} (at.sizes.nodes + at.sizes.links) 0, usable.placed.after-scratch, usable.room))
            ∙ get_or-zeros (at.sizes.nodes + at.sizes.links) x

  -- a good record more
  pub passed-next : {words m : List ℕ} {i : ℕ} {r : Bool} → Passed b a slots words i → RecordTested b a at slots words i r m → not r ≡ false → Passed b m slots words (i + 1)
  passed-next {words} {m} {i} {r} before tested e =
      record {
        good = below_more _ i (λ j h. sym (bad_record-same t words j) ∙ before.good j h)
            (sym (bad_record-same t words i) ∙ not-true (bad_record b a words i) (sym tested.said ∙ not-false r e));
        slotted = subst (Slotted m words (i + 1) slots.numbers slots.marks) t.count (tested.slotted (not-false r e));
      }
    where
      t : SameTables b a m
      t = tables_still usable tested.kept

  -- ---- what is left of the area a from which they started

  module _ {c : List ℕ} (kept : Scratched at a c) {words : List ℕ} {i : ℕ} (before : Passed b c slots words i) where
    fine : (j : ℕ) → j < i → bad_record b a words j ≡ false
    fine j h = bad_record-same (tables_still usable kept) words j ∙ before.good j h

    pub bad_found : {count : ℕ} → i < count → {r : Bool} {m : List ℕ} → RecordTested b c at slots words i r m → not r ≡ true → AllTested b a at slots words count (Err (BadRecord i)) m
    bad_found {count} h {r} tested e =
        record {
          said = first_bad 12 (bad_record b a words) count fine h refl
              (bad_record-same (tables_still usable kept) words i ∙ not-false (bad_record b c words i) (sym tested.said ∙ not-true r e));
          good = λ f. absurd (not_passed f);
          kept = within_both kept tested.kept;
        }

    pub all-good : {count : ℕ} → i ≤ count → count ≤ i → AllTested b a at slots words count (Ok tt) c
    all-good {count} low high =
        record {
          said = none_bad 12 (bad_record b a words) count fine high;
          good = λ f. let all : i ≡ count = omega arith in subst (Passed b c slots words) all before;
          kept = kept;
        }
