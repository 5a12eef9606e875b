-- A line lies within the file, and the numbers that were read within their room.
-- Rests on text's Lists and Split, and on recorded's Bounds.
use Prim.Native.Nat.{ℕ, ◌≤◌}
use native.Mathlib.Omega.{arith}
use mathlib.Core.Path.{◌≡◌, subst}
use mathlib.Core.List.{List}
use lib.ListN.{length}
use Rattle.std.proofs.Common.{Option, Some}
use Rattle.paper.specs.Text.{newline}
use Rattle.text.specs.Lists.{how_many}
use Rattle.text.specs.Parts.{part_end}
use Rattle.text.proofs.Split.{part-starts, part-within}
use Rattle.recorded.proofs.Bounds.{Within}

pub line-within : (file : List ℕ) (at : ℕ) {end : ℕ} → at ≤ length file → end ≡ part_end newline file at → Within at end file
line-within file at h e =
    record { ordered = omega (arith, e, part-starts newline file at); inside = omega (arith, e, part-within newline file at h) }

pub few : {answer : Option ℕ} {count : ℕ} (words : List ℕ) → how_many answer ≤ length words → answer ≡ Some count → count ≤ length words
few words h e = subst (λ (a : Option ℕ). how_many a ≤ length words) e h
