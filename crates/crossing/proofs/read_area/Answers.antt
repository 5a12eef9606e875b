-- `crossing::read_area` meets its contract: the first 63,502 bytes hold the first 31,751 words, and fewer bytes hold fewer words.
-- Rests on Crossed.
use Rattle.std.proofs.Common.{rules}
use Rattle.crossing.proofs.Crossed.{read_first, read_all}
use Rattle.crossing.proofs.read_area.Goals as goal

pub returns-then-words-gt31751 : goal.returns-then-words-gt31751
returns-then-words-gt31751 c = (search rules, read_first _ _ c.words_from.ensures)

pub returns : goal.returns
returns c = (search rules, read_all _ _ (search rules) c.words_from-2.ensures)
