-- `port_conflict::links::first_links_meet` meets its contract: after k links an output's mark stands if none of them is at it.
-- Rests on Passing.
use Rattle.port_conflict.proofs.Passing.{passing-starts, laid_still, pass_meets, pass_on, pass_ends}
use Rattle.port_conflict.proofs.links.first_links_meet.Goals as goal

pub loop-k-init : goal.loop-k-init
loop-k-init c = passing-starts _ _ _ _

pub pass_link-requires-clause-laid : goal.pass_link-requires-clause-laid
pass_link-requires-clause-laid c = laid_still c.requires c.loop-k.invariant

pub returns-then-pass_link : goal.returns-then-pass_link
returns-then-pass_link c = pass_meets c.requires c.loop-k.invariant c.loop-k-test.true c.pass_link.ensures c.if-pass_link.true

pub loop-k-preserved : goal.loop-k-preserved
loop-k-preserved c = pass_on c.requires c.loop-k.invariant c.loop-k-test.true c.pass_link.ensures c.if-pass_link.false

pub returns : goal.returns
returns c = pass_ends c.requires c.loop-k.invariant c.loop-k-test.false
