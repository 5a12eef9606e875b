-- 01, the program `ask`, and `why` beside it: their text, read and printed, as functions from bytes to bytes.
-- Rests on Calls.
use Rattle.std.specs.Prelude.{ℕ, zero, suc, ◌+◌, ◌-◌, ◌*◌, ◌/◌, ◌%◌, Bool, ◌&&◌, ◌||◌, not, cond, length, replicate, eqb, leb, ltb}
use mathlib.Core.List.{List, [], ◌∷◌, ◌++◌, map, flat_map}
use Rattle.lists.specs.Lists.{all}
use Rattle.lists.specs.Found.{Found, absent, at, placed, is_at, front}
use Rattle.lists.specs.Ascii.{ascii}
use Rattle.paper.specs.Map.{N, L}
use Rattle.paper.specs.Area.{W}
use Rattle.paper.specs.Intervals.{Reply, Yes, No}
use Rattle.paper.specs.Refusals.{Answer, refused, answered}
use Rattle.paper.specs.Path.{Path, path, no_path}
use Rattle.paper.specs.Calls.{Left, prepare, is_node_convex, topo_is_node_convex, path_answer}

abbrev pub newline : ℕ
newline = 10

abbrev pub space : ℕ
space = 32

-- ---- reading

-- a byte in front of the first part
unfoldable pub onto : ℕ → List (List ℕ) → List (List ℕ)
onto x [] = (x ∷ []) ∷ []
onto x (p ∷ ps) = (x ∷ p) ∷ ps

-- the parts of a text between the bytes that part it
unfoldable pub split : ℕ → List ℕ → List (List ℕ)
split s [] = [] ∷ []
split s (x ∷ xs) = cond (eqb x s) ([] ∷ split s xs) (onto x (split s xs))

-- "A last line without newline counts if it has a byte; no input gives the first line only."
unfoldable pub last_if_any : List (List ℕ) → List (List ℕ)
last_if_any [] = []
last_if_any ([] ∷ []) = []
last_if_any ((x ∷ xs) ∷ []) = (x ∷ xs) ∷ []
last_if_any (p ∷ (q ∷ ps)) = p ∷ last_if_any (q ∷ ps)

-- "lists on standard input, one a line"
unfoldable pub lines_in : List ℕ → List (List ℕ)
lines_in input = last_if_any (split newline input)

unfoldable pub is_digit : ℕ → Bool
is_digit x = leb 48 x && leb x 57

unfoldable pub value_onto : ℕ → List ℕ → ℕ
value_onto n [] = n
value_onto n (x ∷ xs) = value_onto (10 * n + (x - 48)) xs

-- "decimal numbers up to 65535 .., no sign and no needless leading zero"
unfoldable pub is_number : List ℕ → Bool
is_number text =
    leb 1 (length text) && all is_digit text && (leb (length text) 1 || not (is_at 48 (front text))) && leb (value_onto 0 text) 65535

unfoldable pub read_number : List ℕ → Found
read_number text = placed (is_number text) (value_onto 0 text)

pub data Read : Type 0 where
  list : List ℕ → Read
  bad : Read

unfoldable pub also : ℕ → Read → Read
also n (list ns) = list (n ∷ ns)
also n bad = bad

unfoldable pub collect : List Found → Read
collect [] = list []
collect (absent ∷ fs) = bad
collect (at n ∷ fs) = also n (collect fs)

-- "with single spaces between"; an empty line is the empty list
unfoldable pub read_list : List ℕ → Read
read_list [] = list []
read_list (x ∷ xs) = collect (map read_number (split space (x ∷ xs)))

-- ---- printing

-- n in decimal, of at most d + 1 digits
unfoldable pub decimal_in : ℕ → ℕ → List ℕ
decimal_in zero n = (48 + n % 10) ∷ []
decimal_in (suc d) n = cond (ltb n 10) ((48 + n) ∷ []) (decimal_in d (n / 10) ++ ((48 + n % 10) ∷ []))

-- 20 digits hold every number that a call answers
unfoldable pub decimal : ℕ → List ℕ
decimal n = decimal_in 19 n

unfoldable pub show_reply : Reply → List ℕ
show_reply Yes = ascii "yes"
show_reply No = ascii "no"

-- "`refused`, number, place"
unfoldable pub show_refused : ℕ → ℕ → List ℕ
show_refused n p = ascii "refused " ++ decimal n ++ ascii " " ++ decimal p

unfoldable pub show_line : Answer (Reply × ℕ) → List ℕ
show_line (refused n p) = show_refused n p
show_line (answered r) = show_reply r.0 ++ ascii " " ++ decimal r.1

unfoldable pub show_order : Answer Reply → List ℕ
show_order (refused n p) = show_refused n p
show_order (answered r) = show_reply r

-- a path as its steps
unfoldable pub show_way : Answer Path → List ℕ
show_way (refused n p) = show_refused n p
show_way (answered (path steps)) = ascii "path" ++ flat_map (λ v. ascii " " ++ decimal v) steps
show_way (answered no_path) = ascii "no path"

-- ---- what a program says of a list: b is the map's bytes, a the prepared area

-- "Each further line gives the line check with its count, then the order check; a refused check shows number and place."
unfoldable pub ask_says : List ℕ → List ℕ → List ℕ → List ℕ
ask_says b a ns =
    ascii "line " ++ show_line (is_node_convex b a ns).answer ++ ascii " order " ++ show_order (topo_is_node_convex b a ns).answer

-- 02, No. 1, for people: `path` with its steps, `no path`, or `refused` with number and place
unfoldable pub why_says : List ℕ → List ℕ → List ℕ → List ℕ
why_says b a ns = show_way (path_answer b a ns)

-- "The first line gives N, L, K."
unfoldable pub first_output : List ℕ → ℕ → List ℕ
first_output b k =
    ascii "steps " ++ decimal (N b) ++ ascii " links " ++ decimal (L b) ++ ascii " lines " ++ decimal k ++ (newline ∷ [])

-- ---- a program, by what it says of a list; `why` has the files, text rules, limits and first line of `ask`

module _ (says : List ℕ → List ℕ → List ℕ → List ℕ) where
  -- "A bad text line prints `refused 15` and its line number from 0, and the program goes on."
  unfoldable pub say_line : List ℕ → List ℕ → ℕ → Read → List ℕ
  say_line b a i bad = show_refused 15 i ++ (newline ∷ [])
  say_line b a i (list ns) = says b a ns ++ (newline ∷ [])

  unfoldable pub say_lines : List ℕ → List ℕ → ℕ → List (List ℕ) → List ℕ
  say_lines b a i [] = []
  say_lines b a i (text ∷ texts) = say_line b a i (read_list text) ++ say_lines b a (suc i) texts

  -- "A refused map prints only `refused`, number, place, and is reported before the input's size."
  -- "Input over 60,000 bytes prints only `refused 15 0`."
  unfoldable pub say_prepared : List ℕ → List ℕ → Left ℕ → List ℕ
  say_prepared b input left = elim left.answer [
    | refused n p ↦ show_refused n p ++ (newline ∷ [])
    | answered k ↦ cond (ltb 60000 (length input)) (show_refused 15 0 ++ (newline ∷ []))
        (first_output b k ++ say_lines b left.area 0 (lines_in input))
  ]

  -- "`steps.pgt` (missing counts as no bytes; over 65,000 bytes prints only `refused 2 0`, the program's own rule before 1)"
  unfoldable pub output : List ℕ → List ℕ → List ℕ
  output b input =
      cond (ltb 65000 (length b)) (show_refused 2 0 ++ (newline ∷ [])) (say_prepared b input (prepare b (replicate (W b) 0)))

unfoldable pub ask : List ℕ → List ℕ → List ℕ
ask = output ask_says

unfoldable pub why : List ℕ → List ℕ → List ℕ
why = output why_says
