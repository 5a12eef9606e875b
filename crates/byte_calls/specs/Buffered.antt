-- A call whose buffer is one of bytes: its words are read from them, and what the call leaves of them is put back.
-- Rests on paper's Calls and Words.
use Rattle.std.specs.Prelude.{List, ℕ}
use Rattle.paper.specs.Calls.{LeftWith}
use Rattle.paper.specs.Words.{put_words}

module _ {A : Type 0} where
  unfoldable pub buffered : List ℕ → LeftWith A → LeftWith A
  buffered bytes left = record { answer = left.answer; area = left.area; buffer = put_words bytes left.buffer }
