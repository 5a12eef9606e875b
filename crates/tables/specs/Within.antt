-- Two states of an area between which only one section was written.
-- Rests on lists.Sections (a place outside a section).
use Rattle.std.specs.Prelude.{ℕ, ◌≡◌, List, length, get_or}
use Rattle.lists.proofs.Sections.{Apart}

-- m came of a by writing to the n words from `at` on, and to no other
pub record Within (at n : ℕ) (a m : List ℕ) : Type 0 where
  pub long : length m ≡ length a
  pub same : (i : ℕ) → Apart i at n → get_or m i 0 ≡ get_or a i 0
