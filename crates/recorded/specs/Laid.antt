-- The step map that the map writer lays out.
-- Rests on paper's Map and Words.
use Rattle.std.specs.Prelude.{ℕ, ◌+◌, ◌*◌, List, [], ◌∷◌, ◌++◌}
use Rattle.paper.specs.Map.{node_bytes, link_bytes, PGT1}
use Rattle.paper.specs.Words.{bytes_from}

-- "bytes back from the trailer to the first node record, node count N, bytes back to the first link record, link count L"
abbrev pub trailer_words : ℕ → ℕ → List ℕ
trailer_words n l = (node_bytes * n + link_bytes * l) ∷ (n ∷ (link_bytes * l ∷ (l ∷ [])))

-- "Node records .., link records .., then a 12-byte trailer: .. and the four ASCII bytes `PGT1`."
unfoldable pub map_bytes : List ℕ → ℕ → ℕ → List ℕ
map_bytes fields n l = bytes_from (fields ++ trailer_words n l) ++ PGT1
