use Rattle.std.proofs.Common.{arith}
use Rattle.refusals.specs.Said.{refused_by}
use Rattle.wording.proofs.Texts.{refused_line-short, refused_map-short}
use Rattle.asking.specs.Begun.{whole, first}
use Rattle.asking.proofs.Starts.{over_map, refused_map, long-input, trailer, opened}
use Rattle.asking.proofs.Texts.{shown_as}
use Rattle.asking.proofs.beginning.begin.Goals as goal

pub returns-then-map_is_long : goal.returns-then-map_is_long
returns-then-map_is_long c =
    whole λ says.
    (shown_as (over_map says c.args.map.now c.args.input.now c.if-map_is_long.true) c.put_refused_line.ensures
    (omega (arith, refused_line-short 2 0)))

pub returns-in-Err : goal.returns-in-Err
returns-in-Err c =
    whole λ says.
    (shown_as
    (refused_map c.args.map.now c.args.input.now c.args.area.now c.if-map_is_long.false c.requires.in_bounds says c.in-Err.x c.in-Err.ensures)
    c.put_unprepared.ensures
    (omega (arith, refused_map-short (refused_by c.in-Err.x))))

pub returns-then-input-gt60000 : goal.returns-then-input-gt60000
returns-then-input-gt60000 c =
    whole λ says.
    (shown_as
    (long-input c.args.map.now c.args.input.now c.args.area.now c.if-map_is_long.false c.requires.in_bounds c.in-Ok.ensures says c.if-input-gt60000.true)
    c.put_refused_line-then-input-gt60000.ensures
    (omega (arith, refused_line-short 15 0)))

pub node_count-n-requires : goal.node_count-n-requires
node_count-n-requires c = trailer c.args.map.now c.args.input.now c.args.area.now c.if-map_is_long.false c.requires.in_bounds c.in-Ok.ensures

pub link_count-l-requires : goal.link_count-l-requires
link_count-l-requires c = trailer c.args.map.now c.args.input.now c.args.area.now c.if-map_is_long.false c.requires.in_bounds c.in-Ok.ensures

pub returns : goal.returns
returns c =
    first
    (opened c.args.map.now c.args.input.now c.args.area.now c.if-map_is_long.false c.requires.in_bounds c.in-Ok.ensures
    c.if-input-gt60000.false c.node_count-n.ensures c.link_count-l.ensures c.put_first.ensures c.requires.in_bounds_2)
