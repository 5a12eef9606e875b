-- 01, "When a call says no to its input": the table, a definition for each row, in the table's order.
-- Rests on the definitions of all sections before.
use Rattle.std.specs.Prelude.{ℕ, ◌/◌, Bool, not, ◌&&◌, ◌||◌, cond, List, [], ◌∷◌, map, length, get_or, take, eqb, leb, ltb}
use Rattle.lists.specs.Lists.{any, member}
use Rattle.lists.specs.Found.{Found, absent, at, first, placed}
use Rattle.paper.specs.Map.{N, L, P, well_formed, within_limits, missing, second}
use Rattle.paper.specs.Order.{never_ordered}
use Rattle.paper.specs.Area.{W, K, position, lines_of, nodes_of}
use Rattle.paper.specs.Accepted.{accepted}
use Rattle.paper.specs.Intervals.{Interval}
use Rattle.paper.specs.Records.{record_at, records_in, inside_on}

-- what one row of the table says of a call's input
pub data Ruling : Type 0 where
  passed : Ruling
  refusal : (number place : ℕ) → Ruling

unfoldable pub refuse : ℕ → Found → Ruling
refuse n absent = passed
refuse n (at p) = refusal n p

-- "the earliest bad entry": its place in its list
unfoldable pub earliest : (ℕ → Bool) → List ℕ → Found
earliest bad list = first (λ i. bad (get_or list i 0)) (length list)

-- 1: "length, distances or mark wrong"
unfoldable pub rule1 : List ℕ → Ruling
rule1 b = refuse 1 (placed (not (well_formed b)) 0)

-- 2: "a size limit passed"
unfoldable pub rule2 : List ℕ → Ruling
rule2 b = refuse 2 (placed (not (within_limits b)) 0)

-- 3: "area under W words"
unfoldable pub rule3 : List ℕ → List ℕ → Ruling
rule3 b a = refuse 3 (placed (ltb (length a) (W b)) 0)

-- 4: "link to a missing node or port"; 5: "second link on an input".
-- "For one link 4 comes before 5; the first bad link decides."
unfoldable pub bad_link : List ℕ → Found
bad_link b = first (λ k. missing b k || second b k) (L b)

unfoldable pub refuse_link : List ℕ → Found → Ruling
refuse_link b absent = passed
refuse_link b (at k) = refusal (cond (missing b k) 4 5) k

unfoldable pub rule45 : List ℕ → Ruling
rule45 b = refuse_link b (bad_link b)

-- 6: "cycle, in preparing only", at the "lowest node never ordered"
unfoldable pub rule6 : List ℕ → Ruling
rule6 b = refuse 6 (first (never_ordered b) (N b))

-- 7: "tables not accepted, not in preparing"
unfoldable pub rule7 : List ℕ → List ℕ → Ruling
rule7 b a = refuse 7 (placed (not (accepted b a)) 0)

-- 8: "empty list or no records", by how many there are
unfoldable pub rule8 : ℕ → Ruling
rule8 n = refuse 8 (placed (eqb n 0) 0)

-- 9: "unknown node". "A single node or port is entry 0."
unfoldable pub rule9 : List ℕ → List ℕ → Ruling
rule9 b list = refuse 9 (earliest (leb (N b)) list)

-- 10: "entry equal to an earlier one"
unfoldable pub rule10 : List ℕ → Ruling
rule10 list = refuse 10 (first (λ i. member (get_or list i 0) (take i list)) (length list))

-- 14: "unknown port", in one of the two lists
unfoldable pub rule14 : List ℕ → List ℕ → Ruling
rule14 b ports = refuse 14 (earliest (leb (P b)) ports)

-- 12: "outside the buffer, line ≥ K, line used before, ends not on the line, lowest above highest".
-- "A record count beyond the buffer gives 12 with the number of whole records as place, before any record is read"
unfoldable pub on_line : List ℕ → List ℕ → ℕ → ℕ → Bool
on_line b a l p = member p (map (position b a) (nodes_of b a l))

unfoldable pub used_before : List ℕ → ℕ → ℕ → Bool
used_before words i l = member l (map (λ r. r.line) (records_in words i))

unfoldable pub bad_record : List ℕ → List ℕ → List ℕ → ℕ → Bool
bad_record b a words i =
    let r = record_at words i in
    leb (K b a) r.line || used_before words i r.line
    || not (on_line b a r.line r.lowest && on_line b a r.line r.highest)
    || ltb r.highest r.lowest

unfoldable pub whole_records : List ℕ → ℕ
whole_records words = length words / 3

unfoldable pub rule12 : List ℕ → List ℕ → List ℕ → ℕ → Ruling
rule12 b a words n =
    cond (ltb (whole_records words) n) (refusal 12 (whole_records words)) (refuse 12 (first (bad_record b a words) n))

-- 13: "a node inside on one line and outside on another; a line with no record is outside"
unfoldable pub straddles : List ℕ → List ℕ → List Interval → ℕ → Bool
straddles b a rs v =
    any (inside_on b a rs v) (lines_of b a v) && any (λ l. not (inside_on b a rs v l)) (lines_of b a v)

unfoldable pub rule13 : List ℕ → List ℕ → List Interval → Ruling
rule13 b a rs = refuse 13 (first (straddles b a rs) (N b))

-- 11: "result longer than the lent room", at the "records or nodes needed"
unfoldable pub rule11 : ℕ → ℕ → Ruling
rule11 room needed = refuse 11 (placed (ltb room needed) needed)

-- ---- "Checked in this order; an answer carries number and place."

unfoldable pub decide : List Ruling → Ruling
decide [] = passed
decide (passed ∷ rules) = decide rules
decide (refusal n p ∷ rules) = refusal n p

pub data Answer (A : Type 0) : Type 0 where
  refused : (number place : ℕ) → Answer A
  answered : A → Answer A

module _ {A : Type 0} where
  unfoldable pub answer : Ruling → A → Answer A
  answer passed x = answered x
  answer (refusal n p) x = refused n p

  -- what stands after a refusal, and what stands else
  unfoldable pub on_refusal : Ruling → A → A → A
  on_refusal passed after else = else
  on_refusal (refusal n p) after else = after
