-- `toposort::toposort` meets its contract: the counters start the queue, the turns empty it, and what is left names the refusal.
-- Rests on Ordered.
use Rattle.std.proofs.Common.{ap}
use Rattle.paper.specs.Refusals.{refuse}
use Rattle.toposort.proofs.Ordered.{counters, standing₀, laid₃, room₃, said}
use Rattle.toposort.proofs.toposort.Goals as goal

pub count_inputs-requires : goal.count_inputs-requires
count_inputs-requires c = c.requires

pub free_nodes-joined-requires : goal.free_nodes-joined-requires
free_nodes-joined-requires c = counters c.requires c.count_inputs.ensures

pub all_turns-requires : goal.all_turns-requires
all_turns-requires c = standing₀ c.requires c.count_inputs.ensures c.free_nodes-joined.ensures.0 c.free_nodes-joined.ensures.1

pub lowest_left-requires : goal.lowest_left-requires
lowest_left-requires c = room₃ c.requires c.count_inputs.ensures c.free_nodes-joined.ensures.0 c.free_nodes-joined.ensures.1
    c.all_turns.ensures.1

pub returns-in-None : goal.returns-in-None
unfolding refuse
returns-in-None c = (
  said c.requires c.count_inputs.ensures c.free_nodes-joined.ensures.0 c.free_nodes-joined.ensures.1 c.all_turns.ensures.1 (ap (refuse 6) c.in-None.ensures),
  laid₃ c.requires c.count_inputs.ensures c.free_nodes-joined.ensures.0 c.free_nodes-joined.ensures.1 c.all_turns.ensures.1,
)

pub returns-in-Some : goal.returns-in-Some
unfolding refuse
returns-in-Some c = (
  said c.requires c.count_inputs.ensures c.free_nodes-joined.ensures.0 c.free_nodes-joined.ensures.1 c.all_turns.ensures.1 (ap (refuse 6) c.in-Some.ensures),
  laid₃ c.requires c.count_inputs.ensures c.free_nodes-joined.ensures.0 c.free_nodes-joined.ensures.1 c.all_turns.ensures.1,
)
