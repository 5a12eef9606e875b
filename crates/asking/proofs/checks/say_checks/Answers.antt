use Rattle.std.proofs.Common.{arith}
use Rattle.answers.specs.Said.{line_said, topo_said}
use Rattle.wording.proofs.Texts.{both_short}
use Rattle.asking.proofs.Texts.{both_asked}
use Rattle.asking.proofs.checks.say_checks.Goals as goal

pub returns-clause-printed : goal.returns-clause-printed
returns-clause-printed c =
    both_asked c.args.map.now c.args.area.now c.args.list.now c.requires.standing c.is_node_convex-line.ensures.area_after
    c.is_node_convex-order.ensures.area_after c.put_answers.ensures c.requires.in_bounds

pub returns-clause-upper_bound : goal.returns-clause-upper_bound
returns-clause-upper_bound c =
    omega (arith, c.put_answers.ensures.ends, both_short (line_said c.is_node_convex-line.result) (topo_said c.is_node_convex-order.result))
