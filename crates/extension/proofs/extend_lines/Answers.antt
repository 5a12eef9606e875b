-- `extension::extend_lines` meets its contract: after i lines, what is left to do comes to what the whole comes to.
-- Rests on Going.
use Rattle.extension.proofs.Going.{stops, goes, ends}
use Rattle.extension.proofs.extend_lines.Goals as goal

pub returns-in_err-made : goal.returns-in_err-made
returns-in_err-made c = rw c.from_residual.ensures (stops c.requires.lines_ready c.loop-x.invariant c.loop-x-test.true c.from.ensures c.in_err-made.ensures)

pub loop-x-preserved : goal.loop-x-preserved
loop-x-preserved c = goes c.requires.lines_ready c.loop-x.invariant c.loop-x-test.true c.from.ensures c.in_ok-made.ensures

pub returns : goal.returns
returns c = ends c.requires.lines_ready c.loop-x.invariant c.requires.usable c.loop-x-test.false
