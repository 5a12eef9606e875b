-- `neighbours::by_port::links_by_input` meets its contract: the keys that it writes are ports, and they are sorted.
-- Rests on Sorted.
use Rattle.paper.specs.Map.{target_port}
use Rattle.order_theory.proofs.Refusals.{sound}
use Rattle.neighbours.proofs.Writing.{target_below}
use Rattle.neighbours.proofs.Sorted.{ready-to_sort, by_port_lem}
use Rattle.neighbours.proofs.by_port.links_by_input.Goals as goal

pub count_sort-requires : goal.count_sort-requires
count_sort-requires c = ready-to_sort c.requires (target_port c.args.b.now)
    (λ k h. target_below c.requires.tabled.read (sound _ c.requires.tabled.links) h) c.target_keys.ensures

pub returns : goal.returns
returns c = by_port_lem c.requires (target_port c.args.b.now)
    (λ k h. target_below c.requires.tabled.read (sound _ c.requires.tabled.links) h) c.target_keys.ensures
    c.count_sort.ensures
