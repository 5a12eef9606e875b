-- A line's record as its mark and its slot in the scratch tell it, and a node's lines as they stand in the area.
-- Rests on tables' Usable and paper's Records.
use Rattle.std.specs.Prelude.{ℕ, ◌+◌, ◌*◌, ◌≤◌, ◌<◌, ◌≡◌, ◌⊎◌, Bool, not, ◌&&◌, List, length, get_or, eqb}
use Rattle.lists.specs.Lists.{any}
use Rattle.paper.specs.Intervals.{within}
use Rattle.paper.specs.Records.{record_at}
use Rattle.tables.specs.declared.Layout.{Layout}
use Rattle.tables.specs.Placed.{scratch_size}
use Rattle.tables.specs.Usable.{Spanned, entries_of}
use Rattle.records.specs.declared.layout.LineSlots.{LineSlots}

-- a number for each line that an area may have, then a mark for each, and all of them in the scratch
pub record SlotsFit (at : Layout) (slots : LineSlots) : Type 0 where
  pub before_numbers : at.scratch ≤ slots.numbers
  pub after_numbers : slots.numbers + (at.sizes.nodes + at.sizes.links) ≤ slots.marks
  pub after-marks : slots.marks + (at.sizes.nodes + at.sizes.links) ≤ at.scratch + scratch_size at.sizes

-- ---- one line

-- line x has a mark, and the position lies within the record that its slot tells
unfoldable pub inside_slot : List ℕ → List ℕ → LineSlots → ℕ → ℕ → Bool
inside_slot a words slots q x = not (eqb (get_or a (slots.marks + x) 0) 0) && within (record_at words (get_or a (slots.numbers + x) 0)) q

-- line x has a slot and a mark in the area, and if the mark is set, a whole record at its slot
pub record SlotAt (a words : List ℕ) (slots : LineSlots) (x : ℕ) : Type 0 where
  pub number-inside : slots.numbers + x < length a
  pub mark-inside : slots.marks + x < length a
  pub whole : (get_or a (slots.marks + x) 0 ≡ 0) ⊎ (3 * get_or a (slots.numbers + x) 0 + 2 < length words)

-- ---- the lines of a node

pub record SlotsAt (a words : List ℕ) (slots : LineSlots) (lines : List ℕ) : Type 0 where
  pub each : (i : ℕ) → i < length lines → SlotAt a words slots (get_or lines i 0)

abbrev pub lines_here : List ℕ → Layout → ℕ → List ℕ
lines_here a at v = entries_of a at.begins at.lines v

abbrev pub position_here : List ℕ → Layout → ℕ → ℕ
position_here a at v = get_or a (at.positions + v) 0

pub record NodeAt (a words : List ℕ) (at : Layout) (slots : LineSlots) (v : ℕ) : Type 0 where
  pub span : Spanned a at.begins at.lines v
  pub room : at.positions + v < length a
  pub slotted : SlotsAt a words slots (lines_here a at v)

-- node v is inside on one of its lines
unfoldable pub inside_here : List ℕ → List ℕ → Layout → LineSlots → ℕ → Bool
inside_here a words at slots v = any (inside_slot a words slots (position_here a at v)) (lines_here a at v)

-- .. and outside on one
unfoldable pub outside_here : List ℕ → List ℕ → Layout → LineSlots → ℕ → Bool
outside_here a words at slots v = any (λ x. not (inside_slot a words slots (position_here a at v) x)) (lines_here a at v)

unfoldable pub straddles_here : List ℕ → List ℕ → Layout → LineSlots → ℕ → Bool
straddles_here a words at slots v = inside_here a words at slots v && outside_here a words at slots v
