-- The lines of the input, one a turn: the line at the reader's place is line i, and after the last turn there is none.
-- Rests on text's Lines and Begun.
use Prim.Native.Nat.{ℕ, suc, ◌+◌, ◌-◌, ◌≤◌, ◌<◌}
use native.Mathlib.Numerals.{add-one}
use native.Mathlib.Omega.{arith}
use mathlib.Core.Path.{◌≡◌, refl, sym, ap, ◌∙◌}
use mathlib.Core.List.{List, [], ◌∷◌, ◌++◌, flat_map}
use lib.ListN.{length, get_or, take, drop, length-drop}
use lib.Seq.{drop-cons}
use Rattle.lists.specs.Lists.{from, upto}
use Rattle.paper.specs.Lines.{tables}
use Rattle.paper.specs.Text.{newline, lines_in, read_list, say_line, say_lines, first_output, output, ask, why}
use Rattle.text.specs.Parts.{part_end}
use Rattle.text.proofs.Split.{part-starts}
use Rattle.text.proofs.Lines.{no_line, lines_from}
use Rattle.asking.specs.Standing.{prepared_area, Standing}
use Rattle.asking.specs.declared.Program.TheVariants.{Ask, Why}
use Rattle.asking.specs.Says.{Says, says_of}
use Rattle.asking.specs.Printed.{Printed}
use Rattle.asking.specs.Begun.{Opened}
use Rattle.asking.specs.Turns.{StartsLine, Turned}
use Rattle.asking.specs.declared.turns.Turn.{Turn}

-- what a list has from a place on
module _ {A : Type 0} (d : A) (xs : List A) (i : ℕ) {ys : List A} {x : A} (e : x ∷ ys ≡ drop i xs) where
  pub stands-there : i < length xs
  stands-there = omega (arith, ap length e, length-drop i xs)

  both_there : x ∷ ys ≡ get_or xs i d ∷ drop (suc i) xs
  both_there = e ∙ drop-cons xs i d stands-there

  pub first-there : get_or xs i d ≡ x
  first-there = cc both_there

  pub rest-there : ys ≡ drop (suc i) xs
  rest-there = cc both_there

-- ---- a turn

module _ (input : List ℕ) (at i : ℕ) (starts : StartsLine input at i) where
  module _ (h : at < length input) where
    lines_left : take (part_end newline input at - at) (drop at input) ∷ lines_in (drop (part_end newline input at + 1) input) ≡ drop i (lines_in input)
    lines_left = sym (lines_from input at h) ∙ starts

    is-line : i < length (lines_in input)
    is-line = stands-there {A = List ℕ} [] (lines_in input) i lines_left

    line-is : get_or (lines_in input) i [] ≡ take (part_end newline input at - at) (drop at input)
    line-is = first-there {A = List ℕ} [] (lines_in input) i lines_left

    next-starts : StartsLine input (part_end newline input at + 1) (suc i)
    next-starts = rest-there {A = List ℕ} [] (lines_in input) i lines_left

    pub turned : (says : Says) {b area before after : List ℕ} {end put : ℕ} → end ≡ part_end newline input at
        → Printed b area (say_line says b (prepared_area b) i (read_list (take (end - at) (drop at input)))) before after put
        → Turned says b input at i area before after (record { printed = put; next = end + 1 })
    turned says e printed =
        record {
          is_line = is-line;
          printed = rw (line-is, ← e) printed;
          next = rw e next-starts;
          onward = omega (arith, part-starts newline input at, e);
        }

  -- .. and after the last one
  no_more : length input ≤ at → length (lines_in input) ≤ i
  no_more h = omega (arith, ap length (sym (no_line input at h) ∙ starts), length-drop i (lines_in input))

-- ---- all turns

-- what holds before turn i: line i is next, and the area stands for the prepared one
pub record SoFar (b input area : List ℕ) (at i : ℕ) : Type 0 where
  pub standing : Standing b area
  pub starts : StartsLine input at i
  pub asked : i ≤ length (lines_in input)
  pub slow : i ≤ at

pub turn-first : {b input area : List ℕ} → Standing b area → SoFar b input area 0 0
turn-first standing = record { standing = standing; starts = refl; asked = omega arith; slow = omega arith }

module _ {b input area : List ℕ} {at i : ℕ} where
  pub turn_more : {says : Says} {m before after : List ℕ} {turn : Turn} → SoFar b input area at i → Turned says b input at i m before after turn
      → SoFar b input m turn.next (i + 1)
  turn_more far turned =
      record {
        standing = turned.printed.standing;
        starts = rw add-one turned.next;
        asked = omega (arith, turned.is_line);
        slow = omega (arith, far.slow, turned.onward);
      }

  pub turns_done : SoFar b input area at i → length input ≤ at → i ≡ length (lines_in input)
  turns_done far h = omega (arith, far.asked, no_more input at i far.starts h)

-- the lines that the turns put, one after the other, are all that is said of the lists
module _ (says : Says) where
  pub all_said : (b a : List ℕ) (texts : List (List ℕ)) → say_lines says b a 0 texts ≡ flat_map (λ i. say_line says b a i (read_list (get_or texts i []))) (upto (length texts))
  unfolding say_lines flat_map
  all_said b a texts = go texts 0 refl
    where
      go : (left : List (List ℕ)) (i : ℕ) → left ≡ drop i texts
          → say_lines says b a i left ≡ flat_map (λ i. say_line says b a i (read_list (get_or texts i []))) (from i (length left))
      go [] i e = refl
      go (t ∷ left) i e =
          ap (λ (text : List ℕ). say_line says b a i (read_list text) ++ say_lines says b a (suc i) left) (sym (first-there {A = List ℕ} [] texts i e))
          ∙ ap (λ (rest : List ℕ). say_line says b a i (read_list (get_or texts i [])) ++ rest) (go left (suc i) (rest-there {A = List ℕ} [] texts i e))

  -- so that, after the first line, the output is what the turns put
  pub output-is : {b input before after area : List ℕ} {end : ℕ} → Opened b input before after area end
      → output says b input ≡ first_output b (tables b).count
      ++ flat_map (λ i. say_line says b (prepared_area b) i (read_list (get_or (lines_in input) i []))) (upto (length (lines_in input)))
  output-is {b} {input} opened =
      opened.rest says ∙ ap (λ (lines : List ℕ). first_output b (tables b).count ++ lines) (all_said b (prepared_area b) (lines_in input))

-- which is `ask` for what it says of a list, and `why` for what it says
pub ask-is : ask ≡ output (says_of Ask)
unfolding ask says_of
ask-is = refl

pub why-is : why ≡ output (says_of Why)
unfolding why says_of
why-is = refl
