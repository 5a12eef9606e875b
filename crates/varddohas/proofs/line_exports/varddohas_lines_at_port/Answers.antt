-- `varddohas::line_exports::varddohas_lines_at_port` meets its contract: the call is asked on the words that cross, and what it leaves is put back.
-- Rests on Exported and crossing's Crossed.
use Rattle.std.proofs.Common.{rules}
use Rattle.paper.specs.Calls.{lines_at_port}
use Rattle.crossing.proofs.Crossed.{port_crosses}
use Rattle.varddohas.proofs.Exported.{held-read, room_back, exported}
use Rattle.varddohas.proofs.line_exports.varddohas_lines_at_port.Goals as goal

pub slice_bounds-put_words-end : goal.slice_bounds-put_words-end
slice_bounds-put_words-end c = let held = held-read _ _ c.area_room-room.ensures c.read_area-words.ensures in
    room_back held
    (λ a. lines_at_port c.args.map.now a c.args.port)
    (port_crosses _ _ _) c.lines_at_port-answer.ensures

pub returns : goal.returns
returns c = let held = held-read _ _ c.area_room-room.ensures c.read_area-words.ensures in
    exported held
    (λ a. lines_at_port c.args.map.now a c.args.port)
    (port_crosses _ _ _) c.lines_at_port-answer.ensures
    (λ i. search rules) c.put_words.ensures _ _ _ _ c.tell_port.ensures
