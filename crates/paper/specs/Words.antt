-- 01, "What is taken from the repository": how words cross as bytes in the exported functions.
-- Rests on Map (a field of two bytes).
use Rattle.std.specs.Prelude.{ℕ, ◌*◌, ◌/◌, ◌%◌, length}
use mathlib.Core.List.{List, [], ◌∷◌, map, flat_map}
use Rattle.std.proofs.lemmas.List.Edits.{sets}
use Rattle.lists.specs.Lists.{upto}
use Rattle.paper.specs.Map.{word}

-- "words cross as two bytes each, low byte first; an odd last byte is neither read nor written"
unfoldable pub words_from : List ℕ → List ℕ
words_from bytes = map (λ i. word bytes (2 * i)) (upto (length bytes / 2))

unfoldable pub bytes_from : List ℕ → List ℕ
bytes_from words = flat_map (λ w. w % 256 ∷ w / 256 ∷ []) words

unfoldable pub put_words : List ℕ → List ℕ → List ℕ
put_words bytes words = sets bytes 0 (bytes_from words)
