-- `text::printer::put_path` meets its contract. The loop: so many steps are put, each in at most 6 bytes.
-- Rests on Printed.
use Rattle.std.proofs.Common.{arith, length-append, refl, rules, take_all, ◌++◌}
use mathlib.Core.List.{flat_map}
use Rattle.lists.specs.Ascii.{ascii}
use Rattle.paper.specs.Text.{decimal, show_way}
use Rattle.text.proofs.Printed.{put_then, text_more, word-short}
use Rattle.text.proofs.printer.put_path.Goals as goal

pub loop-step-init : goal.loop-step-init
unfolding flat_map
loop-step-init c = (refl, search rules, record { stands = refl; ends = search rules })

pub loop-step-preserved : goal.loop-step-preserved
loop-step-preserved c = (
  search rules,
  omega (
    arith,
    c.put_numbered-end.ensures.ends,
    length-append (ascii " ") (decimal c.from.result),
    word-short c.from.result (omega (arith, c.type_inv.steps c.loop-step.step-index)),
    c.loop-step.invariant.1,
  ),
  text_more (λ v. ascii " " ++ decimal v) _ c.loop-step.step-index (search rules) c.loop-step.invariant.2 (rw (← c.from.ensures) c.put_numbered-end.ensures),
)

pub returns-clause-put : goal.returns-clause-put
unfolding show_way
returns-clause-put c = let all = take_all c.loop-step.step-index c.args.steps.now c.loop-step-test.false in
    put_then c.put_text-end.ensures (rw (← all) c.loop-step.invariant.2)
