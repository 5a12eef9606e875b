-- The numbers of the kinds of lines, as the head of the file of recorded answers lists them.
-- Rests on nothing.
use Rattle.std.specs.Prelude.{ℕ, ◌≡◌, Option, None, Some}
use Rattle.tallying.specs.declared.kind.Kind.{Kind}
use Rattle.tallying.specs.declared.kind.Kind.TheVariants.{Map, Written, Asked}
use Rattle.tallying.specs.declared.kind.Table.{Table}
use Rattle.tallying.specs.declared.kind.Table.TheVariants.{Order, Positions, NodeStarts, LinesOfNodes, LineStarts, NodesOfLines}
use Rattle.tallying.specs.declared.kind.Question.{Question}
use Rattle.tallying.specs.declared.kind.Question.TheVariants.{
  LineCheck,
  OrderCheck,
  RecordCheck,
  Intervals,
  Extension,
  Nodes,
  PortLines,
  LinePorts,
  OrderPorts,
}

abbrev pub table_number : Table → ℕ
table_number Order = 2
table_number Positions = 3
table_number NodeStarts = 4
table_number LinesOfNodes = 5
table_number LineStarts = 6
table_number NodesOfLines = 7

abbrev pub question_number : Question → ℕ
question_number LineCheck = 8
question_number OrderCheck = 9
question_number RecordCheck = 10
question_number Intervals = 11
question_number Extension = 12
question_number Nodes = 13
question_number PortLines = 14
question_number LinePorts = 15
question_number OrderPorts = 16

abbrev pub number_of : Kind → ℕ
number_of Map = 1
number_of (Written table) = table_number table
number_of (Asked question) = question_number question

-- the kind with a number, or that no kind has it
abbrev pub Numbered : Option Kind → ℕ → Type 0
Numbered (Some kind) number = number_of kind ≡ number
Numbered None number = (kind : Kind) → number_of kind ≡ number → ⊥
