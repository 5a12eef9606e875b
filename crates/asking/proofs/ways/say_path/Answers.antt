use Rattle.std.proofs.Common.{arith, refl, rules}
use Rattle.asking.proofs.Paths.{steps-within, way_said}
use Rattle.asking.proofs.ways.say_path.Goals as goal

pub put_way-requires-clause-answer_in_bounds : goal.put_way-requires-clause-answer_in_bounds
put_way-requires-clause-answer_in_bounds c =
    omega (
      arith,
      steps-within c.requires.standing c.args.list.now _ refl c.show_path-answer.ensures.buffer_after,
    )

pub returns-clause-printed : goal.returns-clause-printed
returns-clause-printed c =
    way_said c.requires.standing c.args.list.now _ refl c.show_path-answer.ensures.buffer_after
    c.put_way.ensures.put (search rules)
