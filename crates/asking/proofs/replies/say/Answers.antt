use Rattle.std.proofs.Common.{ap}
use Rattle.asking.specs.Standing.{prepared_area}
use Rattle.asking.specs.declared.Program.{Program}
use Rattle.asking.specs.Says.{says_of}
use Rattle.asking.proofs.Texts.{printed_as}
use Rattle.asking.proofs.replies.say.Goals as goal

pub returns-in-Ask-clause-printed : goal.returns-in-Ask-clause-printed
unfolding says_of
returns-in-Ask-clause-printed c =
    printed_as (ap (λ (p : Program). says_of p c.args.map.now (prepared_area c.args.map.now) c.args.list.now) c.in-Ask.is) c.say_checks.ensures.printed

pub returns-in-Why-clause-printed : goal.returns-in-Why-clause-printed
unfolding says_of
returns-in-Why-clause-printed c =
    printed_as (ap (λ (p : Program). says_of p c.args.map.now (prepared_area c.args.map.now) c.args.list.now) c.in-Why.is) c.say_path.ensures.printed
