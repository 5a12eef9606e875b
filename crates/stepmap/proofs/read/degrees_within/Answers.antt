-- `stepmap::read::degrees_within` meets its contract: the nodes passed have few ports, and the first that has not decides.
-- Rests on lists.AllAny and Reading.
use Rattle.std.proofs.Common.{ap, arith, below_more, sym, ℕ, ◌∙◌, ◌≡◌}
use Rattle.lists.specs.Lists.{all, upto}
use Rattle.stepmap.specs.Formed.{few_ports}
use Rattle.lists.proofs.AllAny.{all_true, all_false}
use Rattle.stepmap.proofs.Reading.{inputs-many, outputs-many, ports-few}
use Rattle.stepmap.proofs.read.degrees_within.Goals as goal

pub returns-then-num_inputs-gt255 : goal.returns-then-num_inputs-gt255
returns-then-num_inputs-gt255 c = sym (all_false (few_ports _) _ _ c.loop-v-test.true (inputs-many _ _ c.num_inputs.ensures c.if-num_inputs-gt255.true))

pub returns-then-num_outputs-gt255 : goal.returns-then-num_outputs-gt255
returns-then-num_outputs-gt255 c = sym (all_false (few_ports _) _ _ c.loop-v-test.true (outputs-many _ _ c.num_outputs.ensures c.if-num_outputs-gt255.true))

pub loop-v-preserved : goal.loop-v-preserved
loop-v-preserved c = below_more _ _ c.loop-v.invariant
    (ports-few _ _ c.num_inputs.ensures c.num_outputs.ensures c.if-num_inputs-gt255.false c.if-num_outputs-gt255.false)

pub returns : goal.returns
returns c = let done : c.args.n ≡ c.loop-v.v = omega arith in
    sym (ap (λ (n : ℕ). all (few_ports c.args.b.now) (upto n)) done ∙ all_true _ _ c.loop-v.invariant)
