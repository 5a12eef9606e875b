-- `port_lines::links_among` meets its contract: the links that pass are counted as the paper counts them.
-- Rests on Among.
use Rattle.std.proofs.Common.{ap, arith, rules, tests, ℕ, ◌∙◌, ◌≡◌}
use Rattle.std.proofs.lemmas.Iterator.{YieldsList-from_range}
use Rattle.std.proofs.lemmas.Iterator.Consumers.{YieldsList-from_filter, count_from_yields_List}
use Rattle.lists.specs.Lists.{count, upto}
use Rattle.paper.specs.Map.{L}
use Rattle.port_lines.specs.Ends.{is_among, links_among}
use Rattle.port_lines.proofs.Among.{counted}
use Rattle.port_lines.proofs.links_among.Goals as goal

pub returns : goal.returns
unfolding links_among
returns c =
    let all : c.args.l ≡ L c.args.b.now = omega arith in
    count_from_yields_List c.filter.result c.count.result c.count.ensures.ran
    (YieldsList-from_filter _ (is_among c.args.b.now c.args.out c.args.v c.args.low c.args.high) (YieldsList-from_range 0 c.args.l c.args.l c.filter.ensures.source (omega arith))
    c.filter.ensures.closure (λ x r q k. search (rules, tests)))
    ∙ counted (is_among c.args.b.now c.args.out c.args.v c.args.low c.args.high) 0 c.args.l
    ∙ ap (λ (n : ℕ). count (is_among c.args.b.now c.args.out c.args.v c.args.low c.args.high) (upto n)) all
