-- What paper's `output` prints of a map and an input, case by case as the programs meet them; `says` is what is said of a list.
-- Rests on Prepares, Texts and paper's Text.
use Prim.Native.Nat.{ℕ, ◌≤◌, ◌<◌}
use native.Mathlib.Decide.{dec_lt}
use native.Mathlib.Omega.{arith}
use borrow.Author.Tests.{lt-ltb, le-ltb}
use mathlib.Core.Path.{◌≡◌, refl, sym, ap, ◌∙◌, subst}
use mathlib.Core.Bool.{Bool, cond}
use mathlib.Core.List.{List, [], ◌∷◌, ◌++◌}
use lib.ListN.{length, replicate, take}
use lib.Dec.{ltb}
use lib.Seq.{take_all, length-take-le}
use Rattle.paper.specs.Map.{N, L}
use Rattle.paper.specs.Lines.{tables}
use Rattle.paper.specs.Area.{W}
use Rattle.paper.specs.Refusals.{Answer, refused, answered}
use Rattle.paper.specs.Calls.{Left, prepare}
use Rattle.paper.specs.Text.{newline, lines_in, show_refused, say_lines, first_output, say_prepared, output}
use Rattle.paper.proofs.Promise.{never_answered}
use Rattle.text.specs.Printed.{Put, first_line}
use Rattle.text.proofs.Printed.{first-is, first_short}
use Rattle.refusals.specs.Said.{refused_by}
use Rattle.refusals.specs.declared.Refusal.{Refusal}
use Rattle.asking.specs.Standing.{prepared_area, Standing}
use Rattle.asking.specs.Says.{Says}
use Rattle.asking.specs.Printed.{Shown}
use Rattle.wording.specs.Shown.{refused_line}
use Rattle.asking.specs.Begun.{Opened, Begun, whole, first}
use Rattle.asking.specs.declared.beginning.Beginning.{Beginning}
use Rattle.asking.specs.declared.beginning.Beginning.TheVariants.{Whole, First}
use Rattle.asking.proofs.Texts.{shown_as}
use Rattle.asking.proofs.Prepares.{same_answer, count-said, trailer-there, standing-there}

-- ---- the output by the map's length, preparing's answer and the input's length

module _ (says : Says) (b input : List ℕ) where
  pub over_map : 65000 < length b → output says b input ≡ show_refused 2 0 ++ (newline ∷ [])
  unfolding output
  over_map h =
      ap (λ (t : Bool). cond t (show_refused 2 0 ++ (newline ∷ [])) (say_prepared says b input (prepare b (replicate (W b) 0)))) (lt-ltb 65000 (length b) h)

  within : length b ≤ 65000 → output says b input ≡ say_prepared says b input (prepare b (replicate (W b) 0))
  unfolding output
  within h =
      ap (λ (t : Bool). cond t (show_refused 2 0 ++ (newline ∷ [])) (say_prepared says b input (prepare b (replicate (W b) 0)))) (le-ltb 65000 (length b) h)

  module _ (left : Left ℕ) where
    by_refusal : {n p : ℕ} → left.answer ≡ refused n p → say_prepared says b input left ≡ show_refused n p ++ (newline ∷ [])
    unfolding say_prepared
    by_refusal e = rw e refl

    by_count : {k : ℕ} → left.answer ≡ answered k
        → say_prepared says b input left ≡ cond (ltb 60000 (length input)) (show_refused 15 0 ++ (newline ∷ []))
        (first_output b k ++ say_lines says b left.area 0 (lines_in input))
    unfolding say_prepared
    by_count e = rw e refl

    by_long : {k : ℕ} → left.answer ≡ answered k → 60000 < length input → say_prepared says b input left ≡ show_refused 15 0 ++ (newline ∷ [])
    by_long {k} e h =
        by_count e
        ∙ ap (λ (t : Bool). cond t (show_refused 15 0 ++ (newline ∷ [])) (first_output b k ++ say_lines says b left.area 0 (lines_in input)))
        (lt-ltb 60000 (length input) h)

    by_lists : {k : ℕ} → left.answer ≡ answered k → length input ≤ 60000
        → say_prepared says b input left ≡ first_output b k ++ say_lines says b left.area 0 (lines_in input)
    by_lists {k} e h =
        by_count e
        ∙ ap (λ (t : Bool). cond t (show_refused 15 0 ++ (newline ∷ [])) (first_output b k ++ say_lines says b left.area 0 (lines_in input)))
        (le-ltb 60000 (length input) h)

-- ---- as the program meets them: the map is within its length, and preparing has answered r

module _ (b input a : List ℕ) {m : List ℕ} (small : length b ≤ 65000) (room : 31751 ≤ length a) where
  said-there : {r : Answer ℕ} → record { answer = r; area = m } ≡ prepare b a → (prepare b (replicate (W b) 0)).answer ≡ r
  said-there e = sym (ap (λ (left : Left ℕ). left.answer) e ∙ same_answer b a room)

  pub refused_map : (says : Says) (x : Refusal) → record { answer = refused_by x; area = m } ≡ prepare b a → output says b input ≡ refused_line (refused_by x)
  unfolding refused_line
  refused_map says x e = within says b input small ∙ by_refusal says b input (prepare b (replicate (W b) 0)) (said-there e)

  module _ {k : ℕ} (lines : record { answer = answered k; area = m } ≡ prepare b a) where
    counted : (prepare b (replicate (W b) 0)).answer ≡ answered k
    counted = said-there lines

    pub long-input : (says : Says) → 60000 < length input → output says b input ≡ show_refused 15 0 ++ (newline ∷ [])
    long-input says h = within says b input small ∙ by_long says b input (prepare b (replicate (W b) 0)) counted h

    counted-here : (prepare b a).answer ≡ answered k
    counted-here = sym (ap (λ (left : Left ℕ). left.answer) lines)

    pub trailer : 12 ≤ length b
    trailer = trailer-there b a counted-here

    pub opened : {n l end : ℕ} {before after : List ℕ} → length input ≤ 60000 → n ≡ N b → l ≡ L b → Put before 0 (first_line n l k) after end → 81 ≤ length before
        → Opened b input before after m end
    unfolding prepared_area
    opened {n} {l} short en el put wide =
        let count : (tables b).count ≡ k = count-said b a counted-here in
        record {
          shown = rw (count, first-is, ← en, ← el) (shown_as refl put (omega (arith, first_short n l k)));
          rest = λ says. rw count (within says b input small ∙ by_lists says b input (prepare b (replicate (W b) 0)) counted short);
          short = short;
          standing =
              subst (Standing b) (sym (ap (λ (left : Left ℕ). left.area) lines))
              (standing-there b a counted-here (same_answer b a room));
        }

-- ---- what `begin` answered

module _ {b input before after area : List ℕ} {r : Beginning} (begun : Begun b input before after area r) {end : ℕ} where
  pub begun_whole : r ≡ Whole end → (says : Says) → Shown (output says b input) before after end
  begun_whole = go begun
    where
      go : {r : Beginning} → Begun b input before after area r → r ≡ Whole end → (says : Says) → Shown (output says b input) before after end
      go (whole shown) e says = subst (λ (k : ℕ). Shown (output says b input) before after k) (cc) (shown says)
      go (first opened) e says = absurd (let z : ◌≡◌ {A = ℕ} 0 1 = cc in omega arith)

  pub begun_first : r ≡ First end → Opened b input before after area end
  begun_first = go begun
    where
      go : {r : Beginning} → Begun b input before after area r → r ≡ First end → Opened b input before after area end
      go (whole shown) e = absurd (let z : ◌≡◌ {A = ℕ} 0 1 = cc in omega arith)
      go (first opened) e = subst (λ (k : ℕ). Opened b input before after area k) (cc) opened

-- ---- one byte more than may be read is enough to read

pub enough_read : (says : Says) (b input : List ℕ) → output says (take 65001 b) (take 60001 input) ≡ output says b input
enough_read says b input = map-part (dec_lt 65000 (length b))
  where
    input-part : Dec (60000 < length input) → length b ≤ 65000 → output says b (take 60001 input) ≡ output says b input
    input-part (no h) small = ap (output says b) (take_all 60001 input (omega arith))
    input-part (yes h) small =
        within says b (take 60001 input) small ∙ go (prepare b (replicate (W b) 0)).answer refl ∙ sym (within says b input small)
      where
        cut : 60000 < length (take 60001 input)
        cut = omega (arith, length-take-le 60001 input (omega arith))

        go : (x : Answer ℕ) → (prepare b (replicate (W b) 0)).answer ≡ x
            → say_prepared says b (take 60001 input) (prepare b (replicate (W b) 0)) ≡ say_prepared says b input (prepare b (replicate (W b) 0))
        go (refused n p) e =
            by_refusal says b (take 60001 input) (prepare b (replicate (W b) 0)) e ∙ sym (by_refusal says b input (prepare b (replicate (W b) 0)) e)
        go (answered k) e =
            by_long says b (take 60001 input) (prepare b (replicate (W b) 0)) e cut ∙ sym (by_long says b input (prepare b (replicate (W b) 0)) e h)

    map-part : Dec (65000 < length b) → output says (take 65001 b) (take 60001 input) ≡ output says b input
    map-part (yes h) =
        over_map says (take 65001 b) (take 60001 input) (omega (arith, length-take-le 65001 b (omega arith))) ∙ sym (over_map says b input h)
    map-part (no h) =
        ap (λ (c : List ℕ). output says c (take 60001 input)) (take_all 65001 b (omega arith)) ∙ input-part (dec_lt 60000 (length input)) (omega arith)
