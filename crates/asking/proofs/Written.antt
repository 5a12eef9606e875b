-- What is written of the input's lines, one a turn, at a writer whose bytes are known.
-- Rests on Lines, Starts and the kit's laws of known bytes.
use Rattle.std.proofs.Common.{◌≡◌, ℕ, ◌+◌, ◌≤◌, List, [], ◌∷◌, ◌++◌, Option, None, Some, IfSome, arith, add-one, append-nil, length, take, refl, sym, ap, ap₂, ◌∙◌, subst}
use Rattle.std.specs.Io.KnownBytes.{Appends}
use Rattle.std.proofs.KnownBytes.{Appends-nil, Appends-trans}
use mathlib.Core.List.{flat_map}
use Rattle.lists.specs.Lists.{upto}
use Rattle.lists.proofs.Sections.{part-sets_in}
use Rattle.lists.proofs.Upto.{upto-suc, flat_map-append}
use Rattle.paper.specs.Text.{lines_in, read_list, say_line, say_lines, output}
use lib.ListN.{get_or}
use lib.Seq.{length-sets, take_all}
use Rattle.asking.specs.Standing.{prepared_area}
use Rattle.asking.specs.Says.{Says}
use Rattle.asking.specs.Printed.{Shown}
use Rattle.asking.specs.Turns.{Turned}
use Rattle.asking.specs.declared.turns.Turn.{Turn}
use Rattle.asking.specs.Begun.{Begun}
use Rattle.asking.specs.declared.beginning.Beginning.TheVariants.{Whole, First}
use Rattle.asking.proofs.Lines.{all_said}
use Rattle.asking.proofs.Starts.{begun_whole, begun_first, enough_read}

-- the bytes up to the end are the text
pub shown_bytes : {text before after : List ℕ} {end : ℕ} → Shown text before after end → take end after ≡ text
shown_bytes {text} {before} {after} {end} shown =
    let within : 0 + length text ≤ length before = omega (arith, shown.put.ends, shown.within, ap length shown.put.stands, length-sets before 0 text) in
    let ends : end ≡ length text = omega (arith, shown.put.ends) in
    ap₂ (λ (n : ℕ) (l : List ℕ). take n l) ends shown.put.stands ∙ part-sets_in before 0 text 0 within

module _ (says : Says) (b input : List ℕ) where
  line_said : ℕ → List ℕ
  line_said i = say_line says b (prepared_area b) i (read_list (get_or (lines_in input) i []))

  -- what is said of the lines before line i
  abbrev pub said : ℕ → List ℕ
  said i = flat_map (λ i. say_line says b (prepared_area b) i (read_list (get_or (lines_in input) i []))) (upto i)

  said_more : (i : ℕ) → said i ++ line_said i ≡ said (i + 1)
  unfolding flat_map line_said
  said_more i =
      sym (ap said (add-one i) ∙ ap (flat_map line_said) (upto-suc i) ∙ flat_map-append line_said (upto i) (i ∷ []) ∙ ap (λ l. said i ++ l) (append-nil (line_said i)))

  -- no turn, one turn more, and all turns
  pub written_none : (o : Option (List ℕ)) → Appends o o (said 0)
  unfolding flat_map
  written_none o = Appends-nil o

  pub written_more : (o p q : Option (List ℕ)) {at i : ℕ} {area before after : List ℕ} {turn : Turn} → Appends o p (said i)
      → Turned says b input at i area before after turn → Appends p q (take turn.printed after) → Appends o q (said (i + 1))
  unfolding line_said
  written_more o p q {i = i} far turned more =
      subst (Appends o q) (ap (λ l. said i ++ l) (shown_bytes turned.printed.shown) ∙ said_more i) (Appends-trans o p q _ _ far more)

  pub written_all : (o p : Option (List ℕ)) {i : ℕ} → Appends o p (said i) → i ≡ length (lines_in input)
      → Appends o p (say_lines says b (prepared_area b) 0 (lines_in input))
  written_all o p far e = subst (Appends o p) (ap said e ∙ sym (all_said says b (prepared_area b) (lines_in input))) far

-- ---- the whole output

module _ (says : Says) {b input before after area : List ℕ} {end : ℕ} (o p : Option (List ℕ)) where
  -- .. which `begin` put as one line
  pub whole_written : Begun b input before after area (Whole end) → Appends o p (take end after) → Appends o p (output says b input)
  whole_written begun more = subst (Appends o p) (shown_bytes (begun_whole begun refl says)) more

module _ (says : Says) {b input before after area : List ℕ} {end : ℕ} (o p q : Option (List ℕ)) where
  -- .. or the first line, and then what is said of the lists
  pub first_written : Begun b input before after area (First end) → Appends o p (take end after)
      → Appends p q (say_lines says b (prepared_area b) 0 (lines_in input)) → Appends o q (output says b input)
  first_written begun more lists =
      let opened = begun_first begun refl in
      subst (Appends o q) (sym (opened.rest says))
      (Appends-trans o p q _ _ (subst (Appends o p) (shown_bytes opened.shown) more) lists)

-- ---- what was read is enough

module _ (says : Says) (map : List ℕ) (o p : Option (List ℕ)) where
  -- all of an input whose first bytes are in the room, on all of a map whose first bytes are there
  pub all_read : (known : Option (List ℕ)) (n : ℕ) (room : List ℕ) → length room ≡ 60001 → IfSome known (λ xs. take n room ≡ take (length room) xs)
      → Appends o p (output says map (take n room))
      → IfSome known (λ input. (whole : List ℕ) → take 65001 whole ≡ map → Appends o p (output says whole input))
  all_read None n room long first done = tt
  all_read (Some xs) n room long first done = λ whole same.
      subst (Appends o p)
      (ap₂ (output says) (sym same) (first ∙ ap (λ k. take k xs) long) ∙ enough_read says whole xs) done

  -- a map that was read whole is a map
  pub some_map : (known : Option (List ℕ)) → length map ≤ 65001
      → IfSome known (λ input. (whole : List ℕ) → take 65001 whole ≡ map → Appends o p (output says whole input))
      → IfSome known (λ input. (whole : List ℕ) × Appends o p (output says whole input))
  some_map None few all = tt
  some_map (Some xs) few all = (map, all map (take_all 65001 map few))
