use Rattle.std.proofs.Common.{arith}
use Rattle.std.proofs.lemmas.Result.{on_ok_weaker}
use Rattle.asking.specs.Says.{says_of}
use Rattle.asking.proofs.Written.{all_read}
use Rattle.asking.proofs.answer_input.Goals as goal

pub returns : goal.returns
returns g c =
    on_ok_weaker c.answer.result
    (all_read (says_of c.args.program) c.args.map.now _ _ (g.I.Read.remaining c.args.from.now) c.in_ok-count.count c.read_full.new.room
    (omega arith) c.in_ok-count.ensures.first)
    c.answer.ensures
