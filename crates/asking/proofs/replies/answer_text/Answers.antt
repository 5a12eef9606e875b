use Rattle.std.proofs.Common.{arith}
use Rattle.asking.specs.Says.{says_of}
use Rattle.asking.proofs.Texts.{bad_text, good_text, read_bad, read-good}
use Rattle.asking.proofs.replies.answer_text.Goals as goal

pub returns-in_default : goal.returns-in_default
returns-in_default c =
    bad_text (says_of c.args.program) c.args.i c.requires.standing (read_bad c.read_list.ensures c.in_default.is) c.put_refused_line.ensures
    (omega (arith, c.requires.in_bounds))

pub returns : goal.returns
returns c = good_text (says_of c.args.program) c.args.i (read-good c.read_list.ensures c.in-Some.is) c.answer_list.ensures
