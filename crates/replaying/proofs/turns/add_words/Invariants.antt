use Rattle.std.proofs.Common.{◌<◌, ◌≡◌, ◌%◌, drop}
use Rattle.replaying.specs.Checksum.{summed}
use Rattle.replaying.proofs.turns.add_words.Given as goal

-- what is left to add makes the whole checksum
abbrev pub invariant-loop-word : goal.invariant-loop-word
invariant-loop-word l = (l.sum < 4294967291) × (summed l.sum (drop l.word-index l.words) ≡ summed (l.before % 4294967291) l.words)
