-- `varddohas::topo_exports::varddohas_topo_is_node_convex` meets its contract: the call is asked on the words that cross, and what it leaves is put back;
-- and what is told keeps demand 3's promise. Rests on Exported, Promises and crossing's Crossed.
use Rattle.std.proofs.Common.{rules}
use Rattle.paper.specs.Calls.{topo_is_node_convex}
use Rattle.paper.specs.Words.{words_from}
use Rattle.crossing.proofs.Crossed.{order_crosses}
use Rattle.varddohas.proofs.Exported.{held-read, room_back, exported}
use Rattle.varddohas.proofs.Promises.{order-kept}
use Rattle.varddohas.proofs.topo_exports.varddohas_topo_is_node_convex.Goals as goal

pub slice_bounds-put_words-end : goal.slice_bounds-put_words-end
slice_bounds-put_words-end c = let held = held-read _ _ c.area_room-room.ensures c.read_area-words.ensures in
    room_back held
    (λ a. topo_is_node_convex c.args.map.now a (words_from c.args.list.now))
    (order_crosses _ _ _) c.is_node_convex-answer.ensures

pub returns : goal.returns
returns c = let held = held-read _ _ c.area_room-room.ensures c.read_area-words.ensures in
    let same =
    exported held
    (λ a. topo_is_node_convex c.args.map.now a (words_from c.args.list.now))
    (order_crosses _ _ _) c.is_node_convex-answer.ensures
    (λ i. search rules) c.put_words.ensures _ _ _ _ c.tell_order.ensures
    in
    record { area_after = same; order_promise = order-kept _ _ _ same }
