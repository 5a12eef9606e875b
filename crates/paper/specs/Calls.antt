-- Every call of 01 as one definition from its inputs to its answer and the lent words afterwards: b is the map's bytes, a the area's words.
-- Rests on Refusals and on the definitions of the questions. Calls have the Rust's names.
use Rattle.std.specs.Prelude.{ℕ, ◌+◌, cond, List, [], ◌∷◌, ◌++◌, length}
use Rattle.std.proofs.lemmas.List.Edits.{sets}
use Rattle.std.proofs.Math.Seq.{slice}
use Rattle.paper.specs.Lines.{tables}
use Rattle.paper.specs.Area.{prepared, cleared, scratch_cleared}
use Rattle.paper.specs.Intervals.{Reply, No, Records, records, apart, intervals}
use Rattle.paper.specs.Walk.{walk, line_check}
use Rattle.paper.specs.OrderCheck.{order_check}
use Rattle.paper.specs.Records.{extend, nodes_in, records_in, words_of_records}
use Rattle.paper.specs.Ports.{first_line, line_count_at, view_start, conflict}
use Rattle.paper.specs.Path.{Path, Shown, back_path, steps_of, shown_of}
use Rattle.paper.specs.Refusals.{
  Ruling,
  rule1,
  rule2,
  rule3,
  rule45,
  rule6,
  rule7,
  rule8,
  rule9,
  rule10,
  rule11,
  rule12,
  rule13,
  rule14,
  whole_records,
  decide,
  Answer,
  refused,
  answered,
  answer,
  on_refusal,
}

-- what a call leaves: its answer and the area's words
pub record Left (A : Type 0) : Type 0 where
  pub answer : Answer A
  pub area : List ℕ

-- .. and the words of its result buffer
pub record LeftWith (A : Type 0) : Type 0 where
  pub answer : Answer A
  pub area : List ℕ
  pub buffer : List ℕ

-- ---- preparing

-- "After 1, 2, 3 nothing has changed."
unfoldable pub untouched : List ℕ → List ℕ → List Ruling
untouched b a = rule1 b ∷ rule2 b ∷ rule3 b a ∷ []

-- "After 4, 5, 6 in preparing the first W words are 0."
unfoldable pub unprepared : List ℕ → List Ruling
unprepared b = rule45 b ∷ rule6 b ∷ []

unfoldable pub prepare : List ℕ → List ℕ → Left ℕ
prepare b a =
    record {
      answer = answer (decide (untouched b a ++ unprepared b)) (tables b).count;
      area = on_refusal (decide (untouched b a)) a (on_refusal (decide (unprepared b)) (cleared b a) (prepared b a));
    }

-- ---- how every other call opens

-- "Other calls never change tables; past 3 they leave scratch 0, the view of a port's lines excepted."
unfoldable pub area_after : List ℕ → List ℕ → List ℕ
area_after b a = on_refusal (decide (untouched b a)) a (scratch_cleared b a)

unfoldable pub opening : List ℕ → List ℕ → List Ruling
opening b a = untouched b a ++ (rule45 b ∷ rule7 b a ∷ [])

module _ {A : Type 0} where
  unfoldable pub call : List ℕ → List ℕ → List Ruling → A → Left A
  call b a rules x = record { answer = answer (decide (opening b a ++ rules)) x; area = area_after b a }

  -- "A refusal never writes result buffers; success writes only the result's length."
  unfoldable pub call_into : List ℕ → List ℕ → List Ruling → A → List ℕ → List ℕ → LeftWith A
  call_into b a rules x buffer result =
      record {
        answer = answer (decide (opening b a ++ rules)) x;
        area = area_after b a;
        buffer = on_refusal (decide (opening b a ++ rules)) buffer (sets buffer 0 result);
      }

-- ---- the checks

-- "Line check"
unfoldable pub line_rules : List ℕ → List ℕ → List Ruling
line_rules b list = rule8 (length list) ∷ rule9 b list ∷ rule10 list ∷ []

unfoldable pub is_node_convex : List ℕ → List ℕ → List ℕ → Left (Reply × ℕ)
is_node_convex b a list = call b a (line_rules b list) (line_check b a list)

-- "Order check"
unfoldable pub order_rules : List ℕ → List ℕ → List Ruling
order_rules b list = rule9 b list ∷ []

unfoldable pub topo_is_node_convex : List ℕ → List ℕ → List ℕ → Left Reply
topo_is_node_convex b a list = call b a (order_rules b list) (order_check b a list)

-- "With ports: no (count 0) if any listed input is the other end of the FIRST link of a listed output; else the check chosen,
-- whose refusals come first."
unfoldable pub port_rules : List ℕ → List ℕ → List ℕ → List Ruling
port_rules b inputs outputs = rule14 b inputs ∷ rule14 b outputs ∷ []

unfoldable pub is_convex : List ℕ → List ℕ → List ℕ → List ℕ → List ℕ → Left (Reply × ℕ)
is_convex b a list inputs outputs =
    call b a (line_rules b list ++ port_rules b inputs outputs) (cond (conflict b inputs outputs) (No, 0) (line_check b a list))

unfoldable pub topo_is_convex : List ℕ → List ℕ → List ℕ → List ℕ → List ℕ → Left Reply
topo_is_convex b a list inputs outputs =
    call b a (order_rules b list ++ port_rules b inputs outputs) (cond (conflict b inputs outputs) No (order_check b a list))

-- ---- intervals and records: n records stand in the words

-- how many were written; or that nodes were found apart, and none was: "not contiguous", "not extendable"
pub data Written : Type 0 where
  wrote : ℕ → Written
  found_apart : Written

unfoldable pub said : Records → Written
said (records rs) = wrote (length rs)
said apart = found_apart

unfoldable pub words_of : Records → List ℕ
words_of (records rs) = words_of_records rs
words_of apart = []

-- "11 is not given for "not contiguous" or "not extendable"."
unfoldable pub needed : Records → ℕ
needed (records rs) = length rs
needed apart = 0

-- "Intervals"
unfoldable pub get_intervals_from_nodes : List ℕ → List ℕ → List ℕ → List ℕ → LeftWith Written
get_intervals_from_nodes b a list buffer =
    let found = intervals b a list in
    call_into b a (rule9 b list ∷ rule10 list ∷ rule11 (whole_records buffer) (needed found) ∷ []) (said found) buffer
    (words_of found)

-- "Check by records"
unfoldable pub is_convex_by_intervals : List ℕ → List ℕ → List ℕ → ℕ → Left (Reply × ℕ)
is_convex_by_intervals b a words n =
    call b a (rule8 n ∷ rule12 b a words n ∷ rule13 b a (records_in words n) ∷ []) (walk b a (records_in words n))

-- "Extend", "in the records' own buffer"
unfoldable pub try_extend_intervals : List ℕ → List ℕ → List ℕ → ℕ → ℕ → LeftWith Written
try_extend_intervals b a words n v =
    let found = extend b a (records_in words n) v in
    call_into b a
    (rule9 b (v ∷ []) ∷ rule12 b a words n ∷ rule13 b a (records_in words n) ∷ rule11 (whole_records words) (needed found) ∷ [])
    (said found) words
    (words_of found)

-- "Nodes in records": how many
unfoldable pub nodes_in_intervals : List ℕ → List ℕ → List ℕ → ℕ → List ℕ → LeftWith ℕ
nodes_in_intervals b a words n buffer =
    let nodes = nodes_in b a (records_in words n) in
    call_into b a (rule12 b a words n ∷ rule13 b a (records_in words n) ∷ rule11 (length buffer) (length nodes) ∷ []) (length nodes) buffer
    nodes

-- ---- 02, No. 1: "Show the path"

-- "Refusals: those of the line check .."
unfoldable pub path_answer : List ℕ → List ℕ → List ℕ → Answer Path
path_answer b a list = answer (decide (opening b a ++ line_rules b list)) (back_path b list)

-- ".. then 11 with the steps needed", which no path does not need
unfoldable pub show_path : List ℕ → List ℕ → List ℕ → List ℕ → LeftWith Shown
show_path b a list buffer =
    let found = back_path b list in
    call_into b a (line_rules b list ++ (rule11 (length buffer) (length (steps_of found)) ∷ [])) (shown_of found) buffer (steps_of found)

-- ---- ports

-- "A single node or port is entry 0."
abbrev pub port_rule : List ℕ → ℕ → List Ruling
port_rule b p = rule14 b (p ∷ []) ∷ []

-- "Lines at a port": "the first one's place in that list, from 0, and the count"
unfoldable pub lines_at_port : List ℕ → List ℕ → ℕ → Left (ℕ × ℕ)
lines_at_port b a p = call b a (port_rule b p) (first_line b p, line_count_at b p)

-- "a second call, which writes nothing, gives the lines themselves as a part of the lent area": the word that the part starts at, and how many
-- words it has
unfoldable pub view_at : List ℕ → List ℕ → ℕ → Answer (ℕ × ℕ)
view_at b a p = answer (decide (opening b a ++ port_rule b p)) (view_start b a p, line_count_at b p)

-- .. "empty on refusal"
unfoldable pub part_at : Answer (ℕ × ℕ) → ℕ × ℕ
part_at (refused n i) = (0, 0)
part_at (answered part) = part

-- .. and its words
unfoldable pub view_of_port : List ℕ → List ℕ → ℕ → List ℕ
view_of_port b a p = let part = part_at (view_at b a p) in slice part.0 (part.0 + part.1) a
