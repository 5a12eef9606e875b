-- `port_conflict::links::leads_to_input` meets its contract: one mark, then the other.
-- Rests on Ends.
use Rattle.port_conflict.proofs.Ends.{leads_nowhere, leads_by}
use Rattle.port_conflict.proofs.links.leads_to_input.Goals as goal

pub returns-then-word_at-eq1 : goal.returns-then-word_at-eq1
returns-then-word_at-eq1 c = leads_by c.args.area.now c.args.room c.args.port c.args.other c.word_at.ensures c.if-word_at-eq1.true c.word_at-then-word_at-eq1.ensures

pub returns-else-word_at-eq1 : goal.returns-else-word_at-eq1
returns-else-word_at-eq1 c = leads_nowhere c.args.area.now c.args.room c.args.port c.args.other c.word_at.ensures c.if-word_at-eq1.false
