-- `byte_records::read_records` meets its contract: the words of the first bytes are the first words, and what is refused is more than stand there.
-- Rests on Reading.
use Rattle.std.proofs.Common.{arith}
use Rattle.byte_records.proofs.Reading.{read_first}
use Rattle.byte_records.proofs.read_records.Goals as goal

pub returns : goal.returns
returns c = (omega (arith, c.if-whole-count.false), c.min-read.ensures, read_first c.args.room.now c.args.records.now c.args.count c.min-read.ensures c.words_from.ensures)
