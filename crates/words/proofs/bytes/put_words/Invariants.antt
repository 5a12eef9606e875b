use Rattle.std.proofs.Common.{take, ◌≡◌}
use Rattle.paper.specs.Words.{put_words}
use Rattle.words.proofs.bytes.put_words.Given as goal

abbrev pub invariant-loop-i : goal.invariant-loop-i
invariant-loop-i l = l.bytes ≡ put_words l.initial.bytes (take l.i l.words)
