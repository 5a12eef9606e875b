use Rattle.std.proofs.Common.{ℕ, arith, length-take-le}
use Rattle.std.proofs.lemmas.Result.{on_ok_weaker}
use Rattle.asking.specs.Says.{says_of}
use Rattle.asking.proofs.Written.{some_map}
use Rattle.asking.proofs.run_on.Goals as goal

pub returns : goal.returns
returns g c = on_ok_weaker c.answer_input.result (some_map (says_of c.args.program) _ _ _ (g.I.Read.remaining c.args.from.now) (omega (arith, length-take-le {A = ℕ}))) c.answer_input.ensures
