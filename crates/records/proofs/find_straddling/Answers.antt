-- `records::find_straddling` meets its contract: no node passed straddles, and the first that does decides.
-- Rests on Refusing.
use Rattle.records.proofs.Refusing.{first_bad, none_bad}
use Rattle.records.specs.Slots.{straddles_here}
use Rattle.records.proofs.find_straddling.Goals as goal

pub returns-then-straddles : goal.returns-then-straddles
returns-then-straddles c = first_bad 13 (straddles_here c.args.area.now c.args.words.now c.args.at c.args.slots) c.args.at.sizes.nodes c.loop-v.invariant c.loop-v-test.true c.straddles.ensures c.if-straddles.true

pub returns : goal.returns
returns c = none_bad 13 (straddles_here c.args.area.now c.args.words.now c.args.at c.args.slots) c.args.at.sizes.nodes c.loop-v.invariant c.loop-v-test.false
