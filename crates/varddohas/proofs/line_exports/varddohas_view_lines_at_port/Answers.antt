-- `varddohas::line_exports::varddohas_view_lines_at_port` meets its contract: the words that cross are asked, and nothing is put back.
-- Rests on Exported.
use Rattle.varddohas.proofs.Exported.{held-read, view_exported}
use Rattle.varddohas.proofs.line_exports.varddohas_view_lines_at_port.Goals as goal

pub returns : goal.returns
returns c = view_exported (held-read _ _ c.area_room-room.ensures c.read_area-words.ensures) _ _ c.view_at_port-answer.ensures _ _ _ c.tell_port.ensures
