-- "Preparing sets unused words and scratch to 0; accepting doesn't read them", and no call does: two areas with the same words in use give every
-- call the same outcome. Rests on Alike, Refusals and on the questions' own files (Intervals, Walk, OrderCheck, Records).
use Prim.Native.Nat.{ℕ, ◌+◌, ◌≤◌}
use native.Mathlib.Omega.{arith}
use mathlib.Core.Path.{◌≡◌, refl, sym, ap, ◌∙◌}
use mathlib.Core.Bool.{Bool, not, cond}
use mathlib.Core.List.{List, [], ◌∷◌, ◌++◌}
use lib.ListN.{length}
use lib.Seq.{sets}
use borrow.Author.Tests.{le-ltb}
use Rattle.lists.specs.Found.{placed}
use Rattle.paper.specs.Map.{port_node}
use Rattle.paper.specs.Lines.{tables}
use Rattle.paper.specs.Area.{Section, start, W, word_of}
use Rattle.paper.specs.Intervals.{No, Interval, Records, intervals}
use Rattle.paper.specs.Walk.{walk, line_check}
use Rattle.paper.specs.OrderCheck.{order_check}
use Rattle.paper.specs.Records.{records_in, extend, nodes_in}
use Rattle.paper.specs.Path.{back_path, steps_of, shown_of}
use Rattle.paper.specs.Ports.{first_line, line_count_at, lines_at, view_start, conflict}
use Rattle.paper.specs.Refusals.{Ruling, passed, refuse, rule1, rule2, rule3, rule7, rule8, rule9, rule10, rule11, rule12, rule13, whole_records, decide, answer}
use Rattle.paper.specs.Calls.{
  untouched,
  unprepared,
  prepare,
  opening,
  call,
  call_into,
  line_rules,
  is_node_convex,
  order_rules,
  topo_is_node_convex,
  port_rules,
  is_convex,
  topo_is_convex,
  said,
  words_of,
  needed,
  get_intervals_from_nodes,
  is_convex_by_intervals,
  try_extend_intervals,
  nodes_in_intervals,
  show_path,
  lines_at_port,
  view_at,
  view_of_port,
}
use Rattle.order_theory.specs.Sound.{Sound}
use Rattle.order_theory.proofs.Refusals.{sound}
use Rattle.accepted_theory.specs.InUse.{SameInUse}
use Rattle.accepted_theory.specs.SameTables.{SameTables}
use Rattle.accepted_theory.specs.SameOutcomes.{SameAnswer, SameWritten, SameOutcomes}
use Rattle.accepted_theory.proofs.Tables.{same_tables}
use Rattle.accepted_theory.proofs.InUse.{accepted_in_use}
use Rattle.accepted_theory.proofs.Intervals.{intervals-same}
use Rattle.accepted_theory.proofs.Walk.{walk_same, line_check-same}
use Rattle.accepted_theory.proofs.OrderCheck.{order_check-same}
use Rattle.accepted_theory.proofs.Records.{extend_same, nodes_in-same, rule12-same, rule13-same, lines_at-same}
use Rattle.accepted_theory.proofs.Ports.{port-passed, view-lines}
use Rattle.accepted_theory.proofs.Refusals.{tables-passed, nodes-passed, records-passed}
use Rattle.accepted_theory.proofs.Alike.{Alike, in_the_end, next, same_answer, same_kept}

-- room for W words
roomy : (b a : List ℕ) → W b ≤ length a → rule3 b a ≡ passed
unfolding rule3 refuse
roomy b a room = ap (λ (short : Bool). refuse 3 (placed short 0)) (le-ltb (length a) (W b) room)

module _ {b a c : List ℕ} (same : SameInUse b a c) (room-a : W b ≤ length a) (room-c : W b ≤ length c) where
  rule3-same : rule3 b a ≡ rule3 b c
  rule3-same = roomy b a room-a ∙ sym (roomy b c room-c)

  rule7-same : rule7 b a ≡ rule7 b c
  unfolding rule7
  rule7-same = ap (λ (t : Bool). refuse 7 (placed (not t) 0)) (accepted_in_use same room-a room-c)

  -- what opens every call: past it the map is sound and the tables read the same
  opened : {A : Type 0} {x y : A} {rs ss : List Ruling} → (SameTables b a c → Sound b → Alike rs ss x y) → Alike (opening b a ++ rs) (opening b c ++ ss) x y
  unfolding opening untouched
  opened then =
      next refl (λ e1. next refl (λ e2. next rule3-same (λ e3. next refl (λ e45. next rule7-same (λ e7.
      then (same_tables same room-a room-c (tables-passed b a e7)) (sound b e45))))))

  -- ---- the calls

  checked : (list : List ℕ) → SameAnswer (is_node_convex b a list) (is_node_convex b c list)
  unfolding is_node_convex call line_rules
  checked list =
      same_answer
      (opened {x = line_check b a list} {y = line_check b c list}
      (λ t s. next refl (λ e8. next refl (λ e9. next refl (λ e10. in_the_end (line_check-same t s list (nodes-passed b list e9)))))))
      (λ r. r)

  ordered : (list : List ℕ) → SameAnswer (topo_is_node_convex b a list) (topo_is_node_convex b c list)
  unfolding topo_is_node_convex call order_rules
  ordered list =
      same_answer (opened {x = order_check b a list} {y = order_check b c list} (λ t s. next refl (λ e9. in_the_end (order_check-same t list)))) (λ r. r)

  checked_ports : (list inputs outputs : List ℕ) → SameAnswer (is_convex b a list inputs outputs) (is_convex b c list inputs outputs)
  unfolding is_convex call line_rules port_rules
  checked_ports list inputs outputs =
      same_answer
      (opened {x = line_check b a list} {y = line_check b c list}
      (λ t s. next refl (λ e8. next refl (λ e9. next refl (λ e10. next refl (λ in14. next refl (λ out14.
      in_the_end (line_check-same t s list (nodes-passed b list e9)))))))))
      (cond (conflict b inputs outputs) (No, 0))

  ordered-ports : (list inputs outputs : List ℕ) → SameAnswer (topo_is_convex b a list inputs outputs) (topo_is_convex b c list inputs outputs)
  unfolding topo_is_convex call order_rules port_rules
  ordered-ports list inputs outputs =
      same_answer
      (opened {x = order_check b a list} {y = order_check b c list}
      (λ t s. next refl (λ e9. next refl (λ in14. next refl (λ out14. in_the_end (order_check-same t list))))))
      (cond (conflict b inputs outputs) No)

  intervals-written : (list buffer : List ℕ) → SameWritten (get_intervals_from_nodes b a list buffer) (get_intervals_from_nodes b c list buffer)
  unfolding get_intervals_from_nodes call_into
  intervals-written list buffer = (same_answer alike said, same_kept alike buffer (λ found. sets buffer 0 (words_of found)))
    where
      rules : Records → List Ruling
      rules found = rule9 b list ∷ rule10 list ∷ rule11 (whole_records buffer) (needed found) ∷ []

      alike : Alike (opening b a ++ rules (intervals b a list)) (opening b c ++ rules (intervals b c list)) (intervals b a list) (intervals b c list)
      alike =
          opened
          (λ t s. next refl (λ e9. let e = intervals-same t list (nodes-passed b list e9) in
          next refl (λ e10. next (ap (λ (found : Records). rule11 (whole_records buffer) (needed found)) e) (λ e11. in_the_end e))))

  checked_records : (words : List ℕ) (n : ℕ) → SameAnswer (is_convex_by_intervals b a words n) (is_convex_by_intervals b c words n)
  unfolding is_convex_by_intervals call
  checked_records words n =
      same_answer
      (opened {x = walk b a (records_in words n)} {y = walk b c (records_in words n)}
      (λ t s. next refl (λ e8. next (rule12-same t words n) (λ e12. next (rule13-same t (records_in words n)) (λ e13.
      in_the_end (walk_same t s (records_in words n) (records-passed b a words n e12)))))))
      (λ r. r)

  extension_written : (words : List ℕ) (n v : ℕ) → SameWritten (try_extend_intervals b a words n v) (try_extend_intervals b c words n v)
  unfolding try_extend_intervals call_into
  extension_written words n v = (same_answer alike said, same_kept alike words (λ found. sets words 0 (words_of found)))
    where
      rs : List Interval
      rs = records_in words n

      rules : List ℕ → Records → List Ruling
      rules m found = rule9 b (v ∷ []) ∷ rule12 b m words n ∷ rule13 b m rs ∷ rule11 (whole_records words) (needed found) ∷ []

      alike : Alike (opening b a ++ rules a (extend b a rs v)) (opening b c ++ rules c (extend b c rs v)) (extend b a rs v) (extend b c rs v)
      alike =
          opened
          (λ t s. next refl (λ e9. let e = extend_same t rs v (nodes-passed b (v ∷ []) e9).0 in
          next (rule12-same t words n) (λ e12. next (rule13-same t rs) (λ e13.
          next (ap (λ (found : Records). rule11 (whole_records words) (needed found)) e) (λ e11. in_the_end e)))))

  nodes-written : (words : List ℕ) (n : ℕ) (buffer : List ℕ) → SameWritten (nodes_in_intervals b a words n buffer) (nodes_in_intervals b c words n buffer)
  unfolding nodes_in_intervals call_into
  nodes-written words n buffer = (same_answer alike length, same_kept alike buffer (sets buffer 0))
    where
      rs : List Interval
      rs = records_in words n

      rules : List ℕ → List ℕ → List Ruling
      rules m nodes = rule12 b m words n ∷ rule13 b m rs ∷ rule11 (length buffer) (length nodes) ∷ []

      alike : Alike (opening b a ++ rules a (nodes_in b a rs)) (opening b c ++ rules c (nodes_in b c rs)) (nodes_in b a rs) (nodes_in b c rs)
      alike =
          opened
          (λ t s. let e = nodes_in-same t rs in
          next (rule12-same t words n) (λ e12. next (rule13-same t rs) (λ e13.
          next (ap (λ (nodes : List ℕ). rule11 (length buffer) (length nodes)) e) (λ e11. in_the_end e))))

  -- the path reads no word of the area
  path-shown : (list buffer : List ℕ) → SameWritten (show_path b a list buffer) (show_path b c list buffer)
  unfolding show_path call_into line_rules
  path-shown list buffer = (same_answer alike shown_of, same_kept alike buffer (λ found. sets buffer 0 (steps_of found)))
    where
      rules : List Ruling
      rules = rule8 (length list) ∷ rule9 b list ∷ rule10 list ∷ rule11 (length buffer) (length (steps_of (back_path b list))) ∷ []

      alike : Alike (opening b a ++ rules) (opening b c ++ rules) (back_path b list) (back_path b list)
      alike = opened (λ t s. next refl (λ e8. next refl (λ e9. next refl (λ e10. next refl (λ e11. in_the_end refl)))))

  lines-found : (p : ℕ) → SameAnswer (lines_at_port b a p) (lines_at_port b c p)
  unfolding lines_at_port call
  lines-found p =
      same_answer (opened {x = line_count_at b p} {y = line_count_at b p} (λ t s. next refl (λ e14. in_the_end refl))) (λ n. (first_line b p, n))

  lines-placed : (p : ℕ) → view_at b a p ≡ view_at b c p
  unfolding view_at view_start
  lines-placed p =
      same_answer
      (opened {x = word_of b a Section.node_starts (port_node b p)} {y = word_of b c Section.node_starts (port_node b p)}
      (λ t s. next refl (λ e14. in_the_end (same.node_starts (port_node b p) (omega (arith, port-passed b p e14))))))
      (λ w. (start b Section.lines_of_nodes + (w + first_line b p), line_count_at b p))

  lines_viewed : (p : ℕ) → view_of_port b a p ≡ view_of_port b c p
  lines_viewed p =
      view-lines b a p
      ∙ same_kept
      (opened {x = lines_at b a p} {y = lines_at b c p} (λ t s. next refl (λ e14. in_the_end (lines_at-same t p (port-passed b p e14)))))
      []
      (λ ls. ls)
      ∙ sym (view-lines b c p)

  -- preparing reads no word of the area
  prepared-same : SameAnswer (prepare b a) (prepare b c)
  unfolding prepare untouched
  prepared-same =
      ap (λ (r : Ruling). answer (decide ((rule1 b ∷ rule2 b ∷ r ∷ []) ++ unprepared b)) (tables b).count) rule3-same

  pub same_outcomes : SameOutcomes b a c
  same_outcomes =
      record {
        preparing = prepared-same;
        line_check = checked;
        order_check = ordered;
        line_check_with_ports = checked_ports;
        order_check_with_ports = ordered-ports;
        intervals = intervals-written;
        check_by_records = checked_records;
        extending = extension_written;
        nodes_in_records = nodes-written;
        path_shown = path-shown;
        lines_at_one = lines-found;
        view_place = lines-placed;
        view = lines_viewed;
      }
