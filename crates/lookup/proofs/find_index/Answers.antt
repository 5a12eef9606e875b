-- `lookup::find_index` meets its contract: each answer at the ends, and the search between them.
-- Rests on Searching.
use Rattle.std.proofs.Common.{arith, rules, ◌-◌}
use Rattle.std.proofs.Common.{◌-◌, length, arith}
use Rattle.lookup.proofs.Searching.{found, none_of_none, none_before, none-behind, bracketed}
use Rattle.lookup.proofs.find_index.Goals as goal

pub returns-then-is_empty : goal.returns-then-is_empty
returns-then-is_empty c = none_of_none c.requires c.args.pos (search rules)

pub returns-then-left-pos : goal.returns-then-left-pos
returns-then-left-pos c = found c.requires c.args.pos 0 (search rules) c.position_at-left.ensures.value c.if-left-pos.true

pub returns-then-right-pos : goal.returns-then-right-pos
returns-then-right-pos c = found c.requires c.args.pos (length c.args.nodes.now - 1) (search rules) c.position_at-right.ensures.value c.if-right-pos.true

pub returns-then-left-pos-2 : goal.returns-then-left-pos-2
returns-then-left-pos-2 c = none_before c.requires c.args.pos c.position_at-left.ensures.value c.if-left-pos-2.true

pub returns-then-right-pos-2 : goal.returns-then-right-pos-2
returns-then-right-pos-2 c = none-behind c.requires c.args.pos (search rules) c.position_at-right.ensures.value c.if-right-pos-2.true

pub find_between-requires : goal.find_between-requires
find_between-requires c = record { line = c.requires; bracketed = bracketed c.requires c.args.pos (search rules) c.position_at-left.ensures.value c.position_at-right.ensures.value (omega (arith, c.if-left-pos.false, c.if-left-pos-2.false)) (omega (arith, c.if-right-pos.false, c.if-right-pos-2.false)) }
