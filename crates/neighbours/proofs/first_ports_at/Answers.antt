-- `neighbours::first_ports_at` meets its contract: the section is lent whole, and comes back written whole.
-- Rests on lists.Sections.
use Rattle.std.proofs.Common.{arith, map, ◌+◌, ◌-◌, ◌∙◌}
use Rattle.lists.specs.Lists.{upto}
use Rattle.lists.proofs.Sections.{lent}
use Rattle.lists.proofs.Upto.{length-table}
use Rattle.paper.specs.Map.{first_port}
use Rattle.neighbours.proofs.first_ports_at.Goals as goal

pub returns : goal.returns
returns c = let table = map (first_port c.args.b.now) (upto (c.args.sizes.nodes + 1)) in
    lent c.args.area.now c.args.firsts (c.args.firsts + (c.args.sizes.nodes + 1) - c.args.firsts) table (length-table (first_port c.args.b.now) (c.args.sizes.nodes + 1) ∙ omega arith)
    (omega (arith, c.requires.n_in_bounds)) c.first_ports.ensures
