-- `extension::extend` meets its contract: the records are copied, and the node's lines are handed on as a part of the area.
-- Rests on Ending.
use Rattle.std.proofs.Common.{arith, ◌+◌}
use Rattle.tables.proofs.Words.{lines-span}
use Rattle.extension.proofs.Ending.{few_given, lines-ready, extended}
use Rattle.extension.proofs.extend.Goals as goal

pub copy_words-requires : goal.copy_words-requires
copy_words-requires c = (omega (arith, c.requires.recorded.fits), omega (arith, few_given c.requires.usable c.requires.recorded, c.requires.v_lt_nodes.1))

pub entries-lines-requires : goal.entries-lines-requires
entries-lines-requires c = lines-span c.requires.usable c.args.v c.requires.v_lt_nodes.0

pub extend_lines-requires-clause-lines_ready : goal.extend_lines-requires-clause-lines_ready
extend_lines-requires-clause-lines_ready c = lines-ready c.requires.usable c.requires.recorded c.requires.slotted c.copy_words.ensures c.requires.v_lt_nodes.0 c.entries-lines.ensures c.word_at-pos.ensures
    (omega (arith, c.type_inv.area (c.args.at.positions + c.args.v), c.word_at-pos.ensures))
    c.requires.v_lt_nodes.1

pub returns : goal.returns
returns c = extended c.requires.usable c.requires.recorded c.requires.slotted c.copy_words.ensures c.requires.v_lt_nodes.0 c.entries-lines.ensures c.word_at-pos.ensures c.extend_lines.ensures
