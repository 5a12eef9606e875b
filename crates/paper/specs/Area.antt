-- 01, "The area": its eight sections, what is read from them, and what preparing writes.
-- Rests on Map and Lines.
use Rattle.std.specs.Prelude.{ℕ, suc, ◌+◌, ◌*◌, length, get_or, take, drop, replicate}
use mathlib.Core.List.{List, [], ◌∷◌, map, flat_map, flatten}
use Rattle.std.proofs.lemmas.List.Edits.{sets}
use Rattle.std.proofs.Math.Seq.{slice}
use Rattle.lists.specs.Lists.{sum, pad}
use Rattle.paper.specs.Map.{N, L, P}
use Rattle.paper.specs.Lines.{Tables, tables}

-- "line count K (1 word), order (N), positions (N), node starts (N+1), lines of nodes (2L+N), line starts (L+N+1),
-- nodes of lines (2L+N), scratch (4N+4L+2P+4)"
pub data Section : Type 0 where
  line_count order positions node_starts lines_of_nodes line_starts nodes_of_lines scratch : Section
  deriving Discrete as same_section

-- .. one after the other
abbrev pub sections : List Section
sections = line_count ∷ order ∷ positions ∷ node_starts ∷ lines_of_nodes ∷ line_starts ∷ nodes_of_lines ∷ scratch ∷ []

unfoldable pub size : List ℕ → Section → ℕ
size b line_count = 1
size b order = N b
size b positions = N b
size b node_starts = N b + 1
size b lines_of_nodes = 2 * L b + N b
size b line_starts = L b + N b + 1
size b nodes_of_lines = 2 * L b + N b
size b scratch = 4 * N b + 4 * L b + 2 * P b + 4

-- the sections before one, in a list of sections
abbrev pub before : Section → List Section → List Section
before s [] = []
before s (r ∷ rs) = elim (same_section r s) [ yes e ↦ [] | no e ↦ r ∷ before s rs ]

unfoldable pub start : List ℕ → Section → ℕ
start b s = sum (map (size b) (before s sections))

-- "Lent 16-bit words, W = 7+10N+9L+2P": the eight sections together
unfoldable pub W : List ℕ → ℕ
W b = sum (map (size b) sections)

-- ---- what is read

-- word i of a section
unfoldable pub word_of : List ℕ → List ℕ → Section → ℕ → ℕ
word_of b a s i = get_or a (start b s + i) 0

-- a section's words
unfoldable pub section : List ℕ → List ℕ → Section → List ℕ
section b a s = take (size b s) (drop (start b s) a)

-- a section's words from one offset up to another
unfoldable pub part : List ℕ → List ℕ → Section → ℕ → ℕ → List ℕ
part b a s f t = slice (start b s + f) (start b s + t) a

unfoldable pub K : List ℕ → List ℕ → ℕ
K b a = word_of b a line_count 0

unfoldable pub order_of : List ℕ → List ℕ → List ℕ
order_of b a = section b a order

unfoldable pub position : List ℕ → List ℕ → ℕ → ℕ
position b a v = word_of b a positions v

-- "Starts are offsets into the section after them."
unfoldable pub lines_of : List ℕ → List ℕ → ℕ → List ℕ
lines_of b a v = part b a lines_of_nodes (word_of b a node_starts v) (word_of b a node_starts (suc v))

unfoldable pub nodes_of : List ℕ → List ℕ → ℕ → List ℕ
nodes_of b a l = part b a nodes_of_lines (word_of b a line_starts l) (word_of b a line_starts (suc l))

-- ---- what is written

-- where each of some lists starts when they stand one after the other, and where the last one ends
unfoldable pub starts : ℕ → List (List ℕ) → List ℕ
starts n [] = n ∷ []
starts n (l ∷ ls) = n ∷ starts (n + length l) ls

unfoldable pub contents : Tables → Section → List ℕ
contents t line_count = t.count ∷ []
contents t order = t.order
contents t positions = t.positions
contents t node_starts = starts 0 t.lines_of_nodes
contents t lines_of_nodes = flatten t.lines_of_nodes
contents t line_starts = starts 0 t.nodes_of_lines
contents t nodes_of_lines = flatten t.nodes_of_lines
contents t scratch = []

-- "Preparing sets unused words and scratch to 0": each section's contents, then 0 to the section's end
unfoldable pub written : List ℕ → List ℕ
written b = let t = tables b in flat_map (λ s. pad (size b s) (contents t s)) sections

-- "Words past W are never changed."
unfoldable pub prepared : List ℕ → List ℕ → List ℕ
prepared b a = sets a 0 (written b)

unfoldable pub cleared : List ℕ → List ℕ → List ℕ
cleared b a = sets a 0 (replicate (W b) 0)

unfoldable pub scratch_cleared : List ℕ → List ℕ → List ℕ
scratch_cleared b a = sets a (start b scratch) (replicate (size b scratch) 0)
