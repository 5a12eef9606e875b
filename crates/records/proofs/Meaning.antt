-- In a usable area with good records, marks and slots tell what 01 says: who is inside, on a line and at all, and who straddles.
-- Rests on Reasons (no two records have the same line), Any and tables' Words.
use Prim.Native.Nat.{ℕ, ◌+◌, ◌*◌, ◌<◌}
use native.Mathlib.Decide.{ℕ_discrete}
use native.Mathlib.Omega.{arith}
use borrow.Author.Tests.{eq-eqb, ne_eqb}
use mathlib.Core.Path.{◌≡◌, refl, sym, ap, ap₂, ◌∙◌, subst}
use mathlib.Core.Logic.{◌⊎◌, inl, inr}
use mathlib.Core.Bool.{Bool, true, false, not, ◌&&◌}
use mathlib.Core.List.{List}
use lib.ListN.{length, get_or}
use lib.Dec.{eqb}
use Rattle.lists.specs.Lists.{upto, any}
use Rattle.lists.proofs.AllAny.{any_true, any_false}
use Rattle.lists.proofs.First.{first-same}
use Rattle.lists.specs.Found.{first}
use Rattle.paper.specs.Area.{K}
use Rattle.paper.specs.Intervals.{within}
use Rattle.paper.specs.Records.{record_at, records_in, inside_on, inside}
use Rattle.paper.specs.Refusals.{refuse, straddles, rule13}
use Rattle.tables.specs.declared.Layout.{Layout}
use Rattle.tables.specs.Usable.{Usable}
use Rattle.tables.specs.Recorded.{Recorded, Unmarked, Marked, Slotted}
use Rattle.tables.proofs.Words.{count-few, position-is, lines_are, lines-span, line_known}
use Rattle.records.specs.declared.layout.LineSlots.{LineSlots}
use Rattle.records.specs.Slots.{SlotsFit, inside_slot, SlotAt, lines_here, position_here, NodeAt, inside_here, outside_here, straddles_here}
use Rattle.records.proofs.Any.{any-map, any_alike}
use Rattle.records.proofs.Reasons.{same_record}

module _ {b a : List ℕ} {at : Layout} {slots : LineSlots} (usable : Usable b a at) {words : List ℕ} {count : ℕ} (recorded : Recorded b a words count) (slotted : Slotted a words count slots.numbers slots.marks (K b a)) where
  -- ---- on one line

  module _ (q x : ℕ) where
    -- record j is the line's, and the position lies within it
    of_line_lem : ℕ → Bool
    of_line_lem j = eqb (record_at words j).line x && within (record_at words j) q

    in_turn : any (λ r. eqb r.line x && within r q) (records_in words count) ≡ any of_line_lem (upto count)
    unfolding of_line_lem records_in
    in_turn = any-map (λ r. eqb r.line x && within r q) (record_at words) (upto count)

    other_line : (j : ℕ) → ((record_at words j).line ≡ x → ⊥) → of_line_lem j ≡ false
    unfolding of_line_lem
    other_line j h = ap (λ (t : Bool). t && within (record_at words j) q) (ne_eqb (record_at words j).line x h)

    by_none : Unmarked a words count slots.marks x → inside_slot a words slots q x ≡ any of_line_lem (upto count)
    unfolding inside_slot
    by_none free =
        ap (λ (m : ℕ). not (eqb m 0) && within (record_at words (get_or a (slots.numbers + x) 0)) q) free.mark
        ∙ sym (any_false of_line_lem count (λ j h. other_line j (free.none j h)))

    by_one : Marked a words count slots.numbers slots.marks x → inside_slot a words slots q x ≡ any of_line_lem (upto count)
    unfolding inside_slot of_line_lem
    by_one has =
        ap (λ (m : ℕ). not (eqb m 0) && within (record_at words s) q) has.mark ∙ go (within (record_at words s) q) refl
      where
        s : ℕ
        s = get_or a (slots.numbers + x) 0

        its : of_line_lem s ≡ within (record_at words s) q
        its = ap (λ (t : Bool). t && within (record_at words s) q) (eq-eqb (record_at words s).line x has.line)

        only : within (record_at words s) q ≡ false → (j : ℕ) → j < count → Dec (j ≡ s) → of_line_lem j ≡ false
        only e j h (yes i) = ap of_line_lem i ∙ its ∙ e
        only e j h (no ne) = other_line j (λ i. ne (same_record b a words recorded.good j s h has.known (i ∙ sym has.line)))

        go : (t : Bool) → within (record_at words s) q ≡ t → t ≡ any of_line_lem (upto count)
        go true e = sym (any_true of_line_lem count s has.known (its ∙ e))
        go false e = sym (any_false of_line_lem count (λ j h. only e j h (ℕ_discrete j s)))

  slot-inside : (v x : ℕ) → x < K b a → inside_slot a words slots (position_here a at v) x ≡ inside_on b a (records_in words count) v x
  unfolding inside_on
  slot-inside v x h =
      go (slotted.each x h) ∙ sym (in_turn (position_here a at v) x)
      ∙ ap (λ (q : ℕ). any (λ r. eqb r.line x && within r q) (records_in words count)) (sym (position-is usable v))
    where
      go : Unmarked a words count slots.marks x ⊎ Marked a words count slots.numbers slots.marks x
          → inside_slot a words slots (position_here a at v) x ≡ any (of_line_lem (position_here a at v) x) (upto count)
      go (inl free) = by_none (position_here a at v) x free
      go (inr has) = by_one (position_here a at v) x has

  -- ---- on all lines of a node

  module _ (v : ℕ) (known : v < at.sizes.nodes) where
    line-here : (i : ℕ) → i < length (lines_here a at v) → get_or (lines_here a at v) i 0 < K b a
    line-here i h =
        subst (λ (xs : List ℕ). get_or xs i 0 < K b a) (lines_are usable v)
        (line_known usable v i known (omega (arith, ap length (lines_are usable v))))

    pub node_at : SlotsFit at slots → NodeAt a words at slots v
    node_at fit =
        record {
          span = lines-span usable v known;
          room = omega (arith, usable.placed, usable.room);
          slotted = record { each = λ i h. slot_at (get_or (lines_here a at v) i 0) (line-here i h) };
        }
      where
        slot_at : (x : ℕ) → x < K b a → SlotAt a words slots x
        slot_at x h =
            record {
              number-inside = omega (arith, fit, count-few usable, usable.placed.after-scratch, usable.room);
              mark-inside = omega (arith, fit, count-few usable, usable.placed.after-scratch, usable.room);
              whole = go (slotted.each x h);
            }
          where
            go : Unmarked a words count slots.marks x ⊎ Marked a words count slots.numbers slots.marks x
                → (get_or a (slots.marks + x) 0 ≡ 0) ⊎ (3 * get_or a (slots.numbers + x) 0 + 2 < length words)
            go (inl free) = inl free.mark
            go (inr has) = inr (omega (arith, has.known, recorded.fits))

    pub inside_is : inside_here a words at slots v ≡ inside b a (records_in words count) v
    unfolding inside_here inside
    inside_is =
        any_alike (inside_slot a words slots (position_here a at v)) (inside_on b a (records_in words count) v) (lines_here a at v) (λ i h. slot-inside v (get_or (lines_here a at v) i 0) (line-here i h))
        ∙ ap (any (inside_on b a (records_in words count) v)) (sym (lines_are usable v))

    straddles-is : straddles_here a words at slots v ≡ straddles b a (records_in words count) v
    unfolding straddles_here outside_here straddles inside
    straddles-is =
        ap₂ (λ (s t : Bool). s && t) inside_is
        (any_alike (λ x. not (inside_slot a words slots (position_here a at v) x)) (λ x. not (inside_on b a (records_in words count) v x)) (lines_here a at v)
        (λ i h. ap not (slot-inside v (get_or (lines_here a at v) i 0) (line-here i h)))
        ∙ ap (any (λ x. not (inside_on b a (records_in words count) v x))) (sym (lines_are usable v)))

  pub rule13-is : refuse 13 (first (straddles_here a words at slots) at.sizes.nodes) ≡ rule13 b a (records_in words count)
  unfolding rule13
  rule13-is =
      ap (refuse 13)
      (first-same (straddles_here a words at slots) (straddles b a (records_in words count)) at.sizes.nodes straddles-is
      ∙ ap (first (straddles b a (records_in words count))) (sym usable.read.nodes))
