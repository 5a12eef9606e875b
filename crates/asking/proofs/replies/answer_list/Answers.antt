use Rattle.std.proofs.Common.{arith}
use Rattle.asking.proofs.Texts.{then_newline}
use Rattle.asking.proofs.replies.answer_list.Goals as goal

pub returns : goal.returns
returns c = then_newline c.say-newline.ensures.printed c.put_text.ensures (omega (arith, c.say-newline.ensures.upper_bound))
