use Rattle.std.proofs.Common.{arith, refl, rules}
use Rattle.replaying.proofs.Sums.{one_more, all-summed}
use Rattle.replaying.proofs.turns.add_words.Goals as goal

pub loop-word-init : goal.loop-word-init
loop-word-init c = (search rules, refl)

pub loop-word-preserved : goal.loop-word-preserved
loop-word-preserved c =
    let more = c.loop-word in
    (search rules, one_more c.args.words.now more.word-index more.sum (omega arith) c.from.ensures more.invariant.1)

pub returns : goal.returns
returns c = all-summed c.args.words.now c.loop-word.word-index c.loop-word.sum (omega arith) c.loop-word.invariant.1
