-- The lines of an input one after the other: a loop that goes on one byte after each line's end visits them all.
-- Rests on Split and on paper's `lines_in`.
use Prim.Native.Nat.{ℕ, ◌+◌, ◌-◌, ◌≤◌, ◌<◌}
use native.Mathlib.Decide.{dec_lt}
use native.Mathlib.Omega.{arith}
use mathlib.Core.Path.{◌≡◌, refl, sym, ap, ◌∙◌}
use mathlib.Core.Bool.{Bool, true, false, cond}
use mathlib.Core.List.{List, [], ◌∷◌}
use lib.ListN.{length, take, drop, length-drop, drop_of_length-le}
use lib.Seq.{length-take-le}
use lib.Dec.{eqb}
use Rattle.paper.specs.Text.{newline, onto, split, last_if_any, lines_in}
use Rattle.text.specs.Parts.{part_end, parts_from}
use Rattle.text.proofs.Split.{part-within, parts_past, parts_left, parts_from_lem}

-- a text has a part
onto-some : (x : ℕ) (ps : List (List ℕ)) → 0 < length (onto x ps)
unfolding onto
onto-some x [] = omega arith
onto-some x (p ∷ ps) = omega arith

split-some : (mark : ℕ) (xs : List ℕ) → 0 < length (split mark xs)
unfolding split
split-some mark [] = omega arith
split-some mark (x ∷ xs) = go (eqb x mark)
  where
    go : (t : Bool) → 0 < length (cond t ([] ∷ split mark xs) (onto x (split mark xs)))
    go true = omega arith
    go false = onto-some x (split mark xs)

-- only the last part counts by whether it has a byte
not_last : (p : List ℕ) (ps : List (List ℕ)) → 0 < length ps → last_if_any (p ∷ ps) ≡ p ∷ last_if_any ps
unfolding last_if_any
not_last p [] h = absurd (omega arith)
not_last [] (q ∷ ps) h = refl
not_last (x ∷ xs) (q ∷ ps) h = refl

last_counts : (p : List ℕ) → 0 < length p → last_if_any (p ∷ []) ≡ p ∷ []
unfolding last_if_any
last_counts [] h = absurd (omega arith)
last_counts (x ∷ xs) h = refl

-- past the last newline, or past the input's end, there is no line
pub no_line : (input : List ℕ) (at : ℕ) → length input ≤ at → lines_in (drop at input) ≡ []
unfolding lines_in last_if_any split
no_line input at h = ap lines_in (drop_of_length-le input h)

pub lines_from : (input : List ℕ) (at : ℕ) → at < length input
    → lines_in (drop at input) ≡ take (part_end newline input at - at) (drop at input) ∷ lines_in (drop (part_end newline input at + 1) input)
unfolding lines_in
lines_from input at h =
    ap last_if_any (sym (parts_left newline input at (omega arith)) ∙ parts_from_lem newline input at (omega arith))
    ∙ go (dec_lt end (length input))
  where
    end : ℕ
    end = part_end newline input at

    line : List ℕ
    line = take (end - at) (drop at input)

    some : length input ≤ end → 0 < length line
    some l =
        omega (arith, length-take-le (end - at) (drop at input) (omega (arith, part-within newline input at (omega arith), length-drop at input)))

    go : Dec (end < length input) → last_if_any (line ∷ parts_from newline input (end + 1)) ≡ line ∷ lines_in (drop (end + 1) input)
    go (yes l) =
        ap (λ (ps : List (List ℕ)). last_if_any (line ∷ ps)) (parts_left newline input (end + 1) (omega arith))
        ∙ not_last line (split newline (drop (end + 1) input)) (split-some newline (drop (end + 1) input))
    go (no l) =
        ap (λ (ps : List (List ℕ)). last_if_any (line ∷ ps)) (parts_past newline input (end + 1) (omega arith))
        ∙ last_counts line (some (omega arith))
        ∙ ap (λ (ls : List (List ℕ)). line ∷ ls) (sym (no_line input (end + 1) (omega arith)))
