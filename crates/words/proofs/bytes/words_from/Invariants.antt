use Rattle.std.proofs.Common.{◌≡◌}
use lib.Seq.{sets}
use Rattle.words.proofs.Turns.{first_words}
use Rattle.words.proofs.bytes.words_from.Given as goal

abbrev pub invariant-loop-i : goal.invariant-loop-i
invariant-loop-i l = l.words ≡ sets l.initial.words 0 (first_words l.bytes l.i)
