-- `walk::starts::lay` meets its contract: each step leaves what the next one asks.
-- Rests on Laying.
use Rattle.std.proofs.Common.{arith, rules, ◌*◌, ◌+◌, ◌-◌}
use Rattle.walk.proofs.Laying.{free, room_fits, links_scratched, lined, laid_out}
use Rattle.walk.proofs.starts.lay.Goals as goal

pub lay_outgoing-links-requires : goal.lay_outgoing-links-requires
lay_outgoing-links-requires c = free c.requires.usable

pub fill-requires : goal.fill-requires
fill-requires c = omega (arith, c.requires.usable.placed, c.requires.usable.room, c.lay_outgoing-links.ensures.kept.long)

pub lay_lows-requires : goal.lay_lows-requires
lay_lows-requires c = lined c.requires.usable c.requires.recorded (room_fits c.args.at c.lay_outgoing-links.ensures) (search rules)

pub returns : goal.returns
returns c = laid_out c.requires.usable c.requires.recorded (room_fits c.args.at c.lay_outgoing-links.ensures) c.lay_outgoing-links.ensures.linked (links_scratched c.args.at c.lay_outgoing-links.ensures)
    (c.args.at.scratch + 2 * c.args.at.sizes.nodes + (c.args.at.sizes.links + c.args.at.sizes.nodes) - c.args.at.scratch) (omega (arith, c.lay_outgoing-links.ensures.first)) c.fill.ensures
    c.lay_lows.ensures
