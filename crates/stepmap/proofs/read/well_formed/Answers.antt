-- `stepmap::read::well_formed` meets its contract: each return is one of refusal 1's tests.
-- Rests on Reading.
use Rattle.std.proofs.Common.{arith, sym, ◌∙◌}
use Rattle.paper.specs.Map.{trailer, to_nodes, to_links, mark}
use Rattle.stepmap.proofs.Reading.{nodes_far, links_far, long, marked, nodes-below, links-below}
use Rattle.stepmap.proofs.read.well_formed.Goals as goal

pub returns-then-b-lt12 : goal.returns-then-b-lt12
returns-then-b-lt12 c = sym (long _ (λ e. omega arith))

pub overflow_mul-n : goal.overflow_mul-n
overflow_mul-n c = omega (arith, nodes-below c.args.b.now c.type_inv.b)

pub overflow_mul-l : goal.overflow_mul-l
overflow_mul-l c = omega (arith, links-below c.args.b.now c.type_inv.b)

pub overflow_add-n : goal.overflow_add-n
overflow_add-n c = omega (arith, nodes-below c.args.b.now c.type_inv.b, links-below c.args.b.now c.type_inv.b)

pub returns-then-number_at-n : goal.returns-then-number_at-n
unfolding to_nodes trailer
returns-then-number_at-n c = sym (nodes_far _ (λ e. c.if-number_at-n.true (omega arith)))

pub returns-then-number_at-l : goal.returns-then-number_at-l
unfolding to_links trailer
returns-then-number_at-l c = sym (links_far _ (λ e. c.if-number_at-l.true (omega arith)))

pub overflow_add-n-3 : goal.overflow_add-n-3
overflow_add-n-3 c = omega (arith, nodes-below c.args.b.now c.type_inv.b, links-below c.args.b.now c.type_inv.b)

pub returns-then-b-n : goal.returns-then-b-n
returns-then-b-n c = sym (long _ (λ e. c.if-b-n.true (omega arith)))

pub returns : goal.returns
unfolding to_nodes to_links mark trailer
returns c = c.is_mark.ensures ∙ sym (marked _ (omega arith) (omega arith) (omega arith))
