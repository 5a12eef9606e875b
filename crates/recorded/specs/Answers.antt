-- The answers as the file writes them: the case, the values, number and place, as the exports tell them; what a case does not have is 0.
-- Rests on paper's Exports.
use Rattle.std.specs.Prelude.{ℕ, List, [], ◌∷◌, ◌++◌, length}
use Rattle.paper.specs.Intervals.{Reply}
use Rattle.paper.specs.Refusals.{Answer}
use Rattle.paper.specs.Calls.{Written}
use Rattle.paper.specs.Exports.{Told, tell, in_count, in_line_reply, in_reply, in_written, in_pair}

unfoldable pub told_words : Told → List ℕ
told_words t = t.case ∷ (t.values ++ (t.number ∷ (t.place ∷ [])))

-- the line check, with ports too, and the check by records: the count
unfoldable pub line_words : Answer (Reply × ℕ) → List ℕ
line_words x = told_words (tell in_line_reply x (0 ∷ []) 0 0)

-- the order check, with ports too: no value
unfoldable pub order_words : Answer Reply → List ℕ
order_words x = told_words (tell in_reply x [] 0 0)

-- intervals and extension: how many records
unfoldable pub written_words : Answer Written → List ℕ
written_words x = told_words (tell in_written x (0 ∷ []) 0 0)

-- preparing: K; nodes in records: how many nodes
unfoldable pub count_words : Answer ℕ → List ℕ
count_words x = told_words (tell in_count x (0 ∷ []) 0 0)

-- lines at a port: the first one's place in its node's list, and the count
unfoldable pub pair_words : Answer (ℕ × ℕ) → List ℕ
pair_words x = told_words (tell in_pair x (0 ∷ (0 ∷ [])) 0 0)

-- .. and behind them a list with its length before it: all words of the buffer afterwards, or the lines that were viewed
unfoldable pub with_list : List ℕ → List ℕ → List ℕ
with_list told list = told ++ (length list ∷ list)
