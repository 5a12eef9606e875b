-- The exported functions, "on numbers and byte slices": each is a call of Calls whose words cross as bytes. A number says the case, and the
-- values go to parameters of their own. Rests on Calls and Words.
use Rattle.std.specs.Prelude.{ℕ, cond, List, [], ◌∷◌, eqb}
use Rattle.std.proofs.lemmas.List.Edits.{sets}
use Rattle.paper.specs.Intervals.{Reply, Yes, No}
use Rattle.paper.specs.Refusals.{Answer, refused, answered}
use Rattle.paper.specs.Path.{Shown, steps, no_steps}
use Rattle.paper.specs.Calls.{Left, LeftWith, Written, wrote, found_apart}
use Rattle.paper.specs.Words.{put_words}

-- ---- an answer in numbers: 1 is an answer or yes; 2 is no, not contiguous, not extendable or no path; with its values

unfoldable pub in_count : ℕ → ℕ × List ℕ
in_count n = (1, n ∷ [])

unfoldable pub in_line_reply : Reply × ℕ → ℕ × List ℕ
in_line_reply (Yes, n) = (1, n ∷ [])
in_line_reply (No, n) = (2, n ∷ [])

unfoldable pub in_reply : Reply → ℕ × List ℕ
in_reply Yes = (1, [])
in_reply No = (2, [])

unfoldable pub in_written : Written → ℕ × List ℕ
in_written (wrote n) = (1, n ∷ [])
in_written found_apart = (2, [])

unfoldable pub in_shown : Shown → ℕ × List ℕ
in_shown (steps n) = (1, n ∷ [])
in_shown no_steps = (2, [])

unfoldable pub in_pair : ℕ × ℕ → ℕ × List ℕ
in_pair (m, n) = (1, m ∷ n ∷ [])

-- ---- what an export returns, and what its parameters for values, number and place hold then

pub record Told : Type 0 where
  pub case : ℕ
  pub values : List ℕ
  pub number : ℕ
  pub place : ℕ

module _ {A : Type 0} where
  -- 3 is refused, with number and place; what a case does not have stays as it was
  unfoldable pub tell : (A → ℕ × List ℕ) → Answer A → List ℕ → ℕ → ℕ → Told
  tell numbers (refused n p) values number place = record { case = 3; values = values; number = n; place = p }
  tell numbers (answered x) values number place =
      record { case = (numbers x).0; values = sets values 0 (numbers x).1; number = number; place = place }

-- ---- .. and what a host hears from them: the answer of a check, read back

-- the line check: 1 is yes and 2 is no, each with the count; else it is refused, with number and place
unfoldable pub heard_line : (case count number place : ℕ) → Answer (Reply × ℕ)
heard_line case count number place =
    cond (eqb case 1) (answered (Yes, count)) (cond (eqb case 2) (answered (No, count)) (refused number place))

-- the order check, which has no count
unfoldable pub heard_order : (case number place : ℕ) → Answer Reply
heard_order case number place =
    cond (eqb case 1) (answered Yes) (cond (eqb case 2) (answered No) (refused number place))

-- the path: 1 is a path with its steps, 2 is no path
unfoldable pub heard_path : (case count number place : ℕ) → Answer Shown
heard_path case count number place =
    cond (eqb case 1) (answered (steps count)) (cond (eqb case 2) (answered no_steps) (refused number place))

-- ---- .. and what stands in the lent bytes: the words that the call leaves are put back

pub record Export : Type 0 where
  pub told : Told
  pub area : List ℕ

pub record ExportWith : Type 0 where
  pub told : Told
  pub area : List ℕ
  pub buffer : List ℕ

module _ {A : Type 0} where
  unfoldable pub export : (A → ℕ × List ℕ) → List ℕ → ℕ → ℕ → List ℕ → Left A → Export
  export numbers values number place area left =
      record { told = tell numbers left.answer values number place; area = put_words area left.area }

  unfoldable pub export_with : (A → ℕ × List ℕ) → List ℕ → ℕ → ℕ → List ℕ → List ℕ → LeftWith A → ExportWith
  export_with numbers values number place area buffer left =
      record {
        told = tell numbers left.answer values number place;
        area = put_words area left.area;
        buffer = put_words buffer left.buffer;
      }
