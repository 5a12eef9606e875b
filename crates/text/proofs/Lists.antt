-- A line's list number by number: the parts of the line are the numbers stored so far, and then those that are left.
-- Rests on Split, Numbers and lists.Sections.
use Prim.Native.Nat.{ℕ, ◌+◌, ◌*◌, ◌-◌, ◌≤◌, ◌<◌}
use native.Mathlib.Decide.{ℕ_discrete}
use native.Mathlib.Nat.{zero-add}
use native.Mathlib.Numerals.{add-one}
use native.Mathlib.Omega.{arith}
use mathlib.Core.Path.{◌≡◌, refl, sym, ap, ap₂, ◌∙◌}
use mathlib.Core.List.{List, [], ◌∷◌, ◌++◌, map, append-nil}
use lib.ListN.{length, take, drop, set}
use lib.Seq.{sets, take-suc-set, length-take-le}
use Rattle.std.proofs.Common.{None, Some}
use Rattle.std.proofs.lemmas.Option.{some_pair_parts}
use Rattle.lists.specs.Found.{Found, absent, at}
use Rattle.lists.proofs.Sections.{sets-next}
use Rattle.paper.specs.Text.{space, split, list, bad, also, collect, read_number, read_list}
use Rattle.text.specs.declared.reader.Cursor.{Cursor}
use Rattle.text.specs.Parts.{part_end}
use Rattle.text.specs.Numbers.{with_next, number_at}
use Rattle.text.specs.Lists.{ReadInto, leading, numbers_read, found_from}
use Rattle.text.proofs.Split.{part-starts, part-within, parts_past, parts_left, parts_from_lem}
use Rattle.text.proofs.Numbers.{no_number}

-- ---- numbers, and then what is left

numbers_more : (ns : List ℕ) (n : ℕ) (fs : List Found) → map at ns ++ (at n ∷ fs) ≡ map at (ns ++ (n ∷ [])) ++ fs
numbers_more [] n fs = refl
numbers_more (m ∷ ns) n fs = ap (λ (gs : List Found). at m ∷ gs) (numbers_more ns n fs)

collect_bad : (ns : List ℕ) (fs : List Found) → collect (map at ns ++ (absent ∷ fs)) ≡ bad
unfolding collect also
collect_bad [] fs = refl
collect_bad (n ∷ ns) fs = ap (also n) (collect_bad ns fs)

collect-all : (ns : List ℕ) → collect (map at ns) ≡ list ns
unfolding collect also
collect-all [] = refl
collect-all (n ∷ ns) = ap (also n) (collect-all ns)

leading_bad : (ns : List ℕ) (fs : List Found) → leading (map at ns ++ (absent ∷ fs)) ≡ ns
unfolding leading
leading_bad [] fs = refl
leading_bad (n ∷ ns) fs = ap (λ (ms : List ℕ). n ∷ ms) (leading_bad ns fs)

leading-all : (ns : List ℕ) → leading (map at ns) ≡ ns
unfolding leading
leading-all [] = refl
leading-all (n ∷ ns) = ap (λ (ms : List ℕ). n ∷ ms) (leading-all ns)

-- ---- one number

-- the reader after a number: what was left before, and where it stands then
pub record Moved (line : List ℕ) (start n next : ℕ) : Type 0 where
  pub left : found_from line start ≡ at n ∷ found_from line next
  pub further : start + 2 ≤ next
  pub within : next ≤ length line + 1

module _ (line : List ℕ) (start : ℕ) (known : start ≤ length line) where
  abbrev end : ℕ
  end = part_end space line start

  abbrev text : List ℕ
  text = take (end - start) (drop start line)

  first : {found : Found} → read_number text ≡ found → found_from line start ≡ found ∷ found_from line (end + 1)
  unfolding found_from
  first e = ap (map read_number) (parts_from_lem space line start known) ∙ ap (λ (f : Found). f ∷ found_from line (end + 1)) e

  -- a number has a digit
  some : {n : ℕ} → read_number text ≡ at n → start < end
  some {n} e = go (ℕ_discrete end start)
    where
      nothing : text ≡ [] → ⊥
      nothing r = let z : ◌≡◌ {A = ℕ} 0 1 = cc (no_number text (ap length r)) in omega arith

      empty : end ≡ start → end - start ≡ 0
      empty q = omega arith

      go : Dec (end ≡ start) → start < end
      go (yes q) = absurd (nothing (ap (λ (k : ℕ). take k (drop start line)) (empty q)))
      go (no ne) = omega (arith, part-starts space line start)

  pub moved : {n : ℕ} {next : Cursor} → number_at line start ≡ Some (n, next) → Moved line start n next.at
  unfolding number_at
  moved {n} {next} e = go (read_number text) refl e
    where
      go : (found : Found) → read_number text ≡ found → with_next found (end + 1) ≡ Some (n, next) → Moved line start n next.at
      go absent q e = absurd (let z : ◌≡◌ {A = ℕ} 0 1 = cc in omega arith)
      go (at m) q e =
          record {
            left = first q ∙ ap₂ (λ (k i : ℕ). at k ∷ found_from line i) same place;
            further = omega (arith, some q, place);
            within = omega (arith, part-within space line start known, place);
          }
        where
          parts : (m ≡ n) × (◌≡◌ {A = Cursor} (record { at = end + 1 }) next)
          parts = some_pair_parts m n _ next e

          same : m ≡ n
          same = parts.0

          place : end + 1 ≡ next.at
          place = ap (λ (c : Cursor). c.at) parts.1

  stopped : number_at line start ≡ None → found_from line start ≡ absent ∷ found_from line (end + 1)
  unfolding number_at
  stopped e = go (read_number text) refl e
    where
      go : (found : Found) → read_number text ≡ found → with_next found (end + 1) ≡ None
          → found_from line start ≡ absent ∷ found_from line (end + 1)
      go absent q e = first q
      go (at m) q e = absurd (let z : ◌≡◌ {A = ℕ} 0 1 = cc in omega arith)

-- ---- the whole line

-- so many numbers are read, and stand in the first words
pub record SoFar (line before words : List ℕ) (start count : ℕ) : Type 0 where
  pub some : 0 < length line
  pub found : found_from line 0 ≡ map at (take count words) ++ found_from line start
  pub stored : words ≡ sets before 0 (take count words)
  pub few : 2 * count ≤ start
  pub within : start ≤ length line + 1

read-line : (line : List ℕ) → 0 < length line → (read_list line ≡ collect (found_from line 0)) × (numbers_read line ≡ leading (found_from line 0))
unfolding read_list numbers_read found_from
read-line [] h = absurd (omega arith)
read-line (x ∷ xs) h = (ap collect parts, ap leading parts)
  where
    parts : map read_number (split space (x ∷ xs)) ≡ found_from (x ∷ xs) 0
    parts = ap (map read_number) (sym (parts_left space (x ∷ xs) 0 (omega arith)))

pub read_none : (line words : List ℕ) → length line ≡ 0 → ReadInto line words words (Some 0)
unfolding read_list numbers_read
read_none [] words e = record { said = refl; within = omega arith; stored = refl }
read_none (x ∷ xs) words e = absurd (omega arith)

pub read-start : (line words : List ℕ) → (length line ≡ 0 → ⊥) → SoFar line words words 0 0
read-start line words h =
    record { some = omega arith; found = refl; stored = refl; few = omega arith; within = omega arith }

module _ {line before words : List ℕ} {start count : ℕ} (far : SoFar line before words start count) where
  pub read_more : {n : ℕ} {next : Cursor} → start ≤ length line → count < length words → number_at line start ≡ Some (n, next)
      → SoFar line before (set words count n) next.at (count + 1)
  read_more {n} {next} known room e =
      record {
        some = far.some;
        found =
            far.found
            ∙ ap (λ (fs : List Found). map at (take count words) ++ fs) turn.left
            ∙ numbers_more (take count words) n (found_from line next.at)
            ∙ ap (λ (ns : List ℕ). map at ns ++ found_from line next.at) (sym one_more);
        stored =
            ap (λ (k : ℕ). set words k n) (sym (zero-add count))
            ∙ sets-next before 0 (take count words) (n ∷ []) far.stored (length-take-le count words (omega arith))
            ∙ ap (sets before 0) (sym one_more);
        few = omega (arith, far.few, turn.further);
        within = turn.within;
      }
    where
      turn : Moved line start n next.at
      turn = moved line start known e

      one_more : take (count + 1) (set words count n) ≡ take count words ++ (n ∷ [])
      one_more = ap (λ (k : ℕ). take k (set words count n)) (add-one count) ∙ take-suc-set words count n room

  pub read_bad : start ≤ length line → number_at line start ≡ None → ReadInto line before words None
  read_bad known e =
      record {
        said = sym ((read-line line far.some).0 ∙ ap collect parts ∙ collect_bad (take count words) (found_from line next));
        within = omega arith;
        stored =
            far.stored
            ∙ ap (sets before 0) (sym ((read-line line far.some).1 ∙ ap leading parts ∙ leading_bad (take count words) (found_from line next)));
      }
    where
      next : ℕ
      next = part_end space line start + 1

      parts : found_from line 0 ≡ map at (take count words) ++ (absent ∷ found_from line next)
      parts = far.found ∙ ap (λ (fs : List Found). map at (take count words) ++ fs) (stopped line start known e)

  pub read_all : length line < start → count ≤ length words → ReadInto line before words (Some count)
  unfolding found_from
  read_all over room =
      record {
        said = sym ((read-line line far.some).0 ∙ ap collect parts ∙ collect-all (take count words));
        within = room;
        stored =
            far.stored
            ∙ ap (sets before 0) (sym ((read-line line far.some).1 ∙ ap leading parts ∙ leading-all (take count words)));
      }
    where
      parts : found_from line 0 ≡ map at (take count words)
      parts =
          far.found
          ∙ ap (λ (ps : List (List ℕ)). map at (take count words) ++ map read_number ps) (parts_past space line start over)
          ∙ append-nil (map at (take count words))
