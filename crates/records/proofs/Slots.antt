-- What reading a line's mark, slot and record tells, and what a node's lines tell together: each way in which the reading ends.
-- Rests on Slots' definitions and paper's Area (how long an area is).
use Prim.Native.Nat.{ℕ, ◌+◌, ◌*◌, ◌≤◌, ◌<◌}
use native.Mathlib.Omega.{arith}
use borrow.Author.Tests.{le-leb, lt-leb, ne_eqb}
use mathlib.Core.Path.{◌≡◌, sym, ap, ap₂, ◌∙◌, subst}
use mathlib.Core.Logic.{◌⊎◌, inl, inr}
use mathlib.Core.Bool.{Bool, true, false, not, ◌&&◌}
use mathlib.Core.List.{List}
use lib.ListN.{length, get_or}
use lib.Dec.{eqb, leb}
use Rattle.std.proofs.lemmas.List.{get_or_default}
use Rattle.lists.specs.Lists.{any}
use Rattle.paper.specs.Intervals.{within}
use Rattle.paper.specs.Records.{record_at}
use Rattle.paper.proofs.Area.{W-sum}
use Rattle.tables.specs.declared.Layout.{Layout}
use Rattle.tables.specs.Placed.{scratch_size}
use Rattle.tables.specs.Usable.{Usable}
use Rattle.records.specs.declared.layout.LineSlots.{LineSlots}
use Rattle.records.specs.Slots.{inside_slot, SlotAt, SlotsAt, lines_here, position_here, inside_here, outside_here, straddles_here}

-- in a usable area slots may be laid out
pub slots_room : {b a : List ℕ} {at : Layout} → Usable b a at → at.scratch + scratch_size at.sizes ≤ 65536
slots_room {b} usable = omega (arith, W-sum b, usable.read, usable.placed.whole, usable.placed.after-scratch)

-- ---- one line

module _ (a words : List ℕ) (slots : LineSlots) (q x : ℕ) {mark : ℕ} (is : mark ≡ get_or a (slots.marks + x) 0) where
  -- the test by the mark and the record
  by_mark : (m : ℕ) → Bool
  by_mark m = not (eqb m 0) && within (record_at words (get_or a (slots.numbers + x) 0)) q

  pub unmarked : mark ≡ 0 → false ≡ inside_slot a words slots q x
  unfolding by_mark inside_slot
  unmarked e = ap by_mark (sym e ∙ is)

  module _ (set : mark ≡ 0 → ⊥) {slot : ℕ} (which : slot ≡ get_or a (slots.numbers + x) 0) where
    whole : SlotAt a words slots x → 3 * slot + 2 < length words
    whole known = go known.whole
      where
        go : (get_or a (slots.marks + x) 0 ≡ 0) ⊎ (3 * get_or a (slots.numbers + x) 0 + 2 < length words) → 3 * slot + 2 < length words
        go (inl e) = absurd (set (is ∙ e))
        go (inr h) = subst (λ (s : ℕ). 3 * s + 2 < length words) (sym which) h

    -- by the record's two words
    by_record : (leb (get_or words (3 * slot + 1) 0) q && leb q (get_or words (3 * slot + 2) 0)) ≡ inside_slot a words slots q x
    unfolding inside_slot within record_at
    by_record =
        ap (λ (s : ℕ). leb (get_or words (3 * s + 1) 0) q && leb q (get_or words (3 * s + 2) 0)) which
        ∙ ap (λ (t : Bool). not t && (leb (get_or words (3 * get_or a (slots.numbers + x) 0 + 1) 0) q && leb q (get_or words (3 * get_or a (slots.numbers + x) 0 + 2) 0)))
        (sym (ne_eqb mark 0 set) ∙ ap (λ (m : ℕ). eqb m 0) is)

    module _ {low : ℕ} (lowest : low ≡ get_or words (3 * slot + 1) 0) where
      pub under-lowest : q < low → leb low q ≡ inside_slot a words slots q x
      under-lowest h =
          lt-leb low q h
          ∙ ap (λ (t : Bool). t && leb q (get_or words (3 * slot + 2) 0)) (sym (lt-leb low q h) ∙ ap (λ (w : ℕ). leb w q) lowest)
          ∙ by_record

      pub from_lowest : low ≤ q → {high : ℕ} → high ≡ get_or words (3 * slot + 2) 0 → leb q high ≡ inside_slot a words slots q x
      from_lowest h {high} highest =
          ap₂ (λ (s t : Bool). s && t) (sym (le-leb low q h) ∙ ap (λ (w : ℕ). leb w q) lowest) (ap (leb q) highest) ∙ by_record

-- ---- a node's lines

-- a line that was read from the list, wherever it stands there
pub slot_of : {a words : List ℕ} {slots : LineSlots} {lines : List ℕ} → SlotsAt a words slots lines → {x : ℕ} (k : ℕ) → k < length lines → x ≡ get_or lines k x → SlotAt a words slots x
slot_of {a} {words} {slots} {lines} known {x} k h e = subst (SlotAt a words slots) (get_or_default lines k 0 x h ∙ sym e) (known.each k h)

module _ (a words : List ℕ) (at : Layout) (slots : LineSlots) (v : ℕ) {lines : List ℕ} {q : ℕ} (are : lines ≡ lines_here a at v) (is : q ≡ position_here a at v) where
  module _ {inner : Bool} (here : inner ≡ any (inside_slot a words slots q) lines) where
    pub node-inside : inner ≡ inside_here a words at slots v
    unfolding inside_here
    node-inside = here ∙ ap₂ (λ (p : ℕ) (xs : List ℕ). any (inside_slot a words slots p) xs) is are

    pub nowhere_inside : inner ≡ false → inner ≡ straddles_here a words at slots v
    unfolding straddles_here
    nowhere_inside e = e ∙ ap (λ (t : Bool). t && outside_here a words at slots v) (sym e ∙ node-inside)

    pub somewhere_inside : inner ≡ true → {outer : Bool} → outer ≡ any (λ x. not (inside_slot a words slots q x)) lines
        → outer ≡ straddles_here a words at slots v
    unfolding straddles_here outside_here
    somewhere_inside e there =
        there ∙ ap₂ (λ (p : ℕ) (xs : List ℕ). any (λ x. not (inside_slot a words slots p x)) xs) is are
        ∙ ap (λ (t : Bool). t && outside_here a words at slots v) (sym e ∙ node-inside)
