-- Records that 12 lets pass: their lines are known and each used once, and their highest positions stand on them.
-- Rests on the definition of a bad record (paper's Refusals).
use Prim.Native.Nat.{ℕ, ◌<◌}
use mathlib.Core.Path.{◌≡◌, refl}
use mathlib.Core.Bool.{Bool, true, false, ◌&&◌, ◌||◌, not}
use mathlib.Core.List.{List}
use lib.Dec.{leb, ltb}
use borrow.Author.Tests.{leb-false, not-false}
use Rattle.lists.specs.Lists.{upto}
use Rattle.lists.proofs.Tests.{or_false_both}
use Rattle.paper.specs.Area.{K}
use Rattle.paper.specs.Records.{record_at, records_in}
use Rattle.paper.specs.Refusals.{on_line, used_before, bad_record}
use Rattle.accepted_theory.specs.Every.{Every}
use Rattle.accepted_theory.specs.SameTables.{KnownRecord}
use Rattle.accepted_theory.proofs.Every.{every_map, every_upto}
use Rattle.tables.specs.Recorded.{Recorded}

module _ (b a words : List ℕ) (i : ℕ) (good : bad_record b a words i ≡ false) where
  parts : ((leb (K b a) (record_at words i).line || used_before words i (record_at words i).line) ≡ false)
      × (not (on_line b a (record_at words i).line (record_at words i).lowest && on_line b a (record_at words i).line (record_at words i).highest) ≡ false)
  unfolding bad_record
  parts =
      let first = or_false_both _ (ltb (record_at words i).highest (record_at words i).lowest) good in
      or_false_both (leb (K b a) (record_at words i).line || used_before words i (record_at words i).line) _ first.0

  pub line_known : (record_at words i).line < K b a
  line_known =
      leb-false (K b a) (record_at words i).line
      (or_false_both (leb (K b a) (record_at words i).line) (used_before words i (record_at words i).line) parts.0).0

  pub line_unused : used_before words i (record_at words i).line ≡ false
  line_unused = (or_false_both (leb (K b a) (record_at words i).line) (used_before words i (record_at words i).line) parts.0).1

  pub highest-stands : on_line b a (record_at words i).line (record_at words i).highest ≡ true
  highest-stands = both (on_line b a (record_at words i).line (record_at words i).lowest) _ (not-false _ parts.1)
    where
      both : (s t : Bool) → (s && t) ≡ true → t ≡ true
      both true t e = e
      both false true e = refl
      both false false e = e

pub records-known : {b a words : List ℕ} {count : ℕ} → Recorded b a words count → Every (KnownRecord b a) (records_in words count)
unfolding records_in
records-known {b} {a} {words} {count} recorded =
    every_map (λ i. i < count) (KnownRecord b a) (record_at words) (λ i h. line_known b a words i (recorded.good i h)) (upto count) (every_upto count)
