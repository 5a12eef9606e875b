-- Each call of the line checker from its opening: a refusal passed up, or what the question answered on the opened area.
-- Rests on Calling and opening's Using.
use Prim.Native.Nat.{ℕ, ◌≤◌, ◌<◌}
use native.Mathlib.Omega.{arith}
use mathlib.Core.Path.{◌≡◌, sym, ap, ap₂, ◌∙◌}
use mathlib.Core.Bool.{Bool}
use mathlib.Core.List.{List, [], ◌∷◌}
use borrow.Author.Tests.{le-leb, lt-leb}
use lib.ListN.{length}
use Rattle.lists.specs.Found.{placed}
use Rattle.paper.specs.Map.{P}
use Rattle.paper.specs.Intervals.{Reply, intervals}
use Rattle.paper.specs.Walk.{walk, line_check}
use Rattle.paper.specs.Records.{records_in, extend, nodes_in}
use Rattle.paper.specs.Ports.{first_line, line_count_at}
use Rattle.paper.specs.Refusals.{
  Ruling,
  passed,
  refusal,
  refuse,
  earliest,
  Answer,
  answer,
  answered,
  refused,
  decide,
  rule8,
  rule9,
  rule10,
  rule11,
  rule12,
  rule13,
  rule14,
  whole_records,
}
use Rattle.paper.specs.Calls.{Written, call, call_into, line_rules, said, words_of, needed, is_node_convex, is_convex_by_intervals, get_intervals_from_nodes, try_extend_intervals, nodes_in_intervals, port_rule, lines_at_port}
use Rattle.refusals.specs.Said.{refused_by}
use Rattle.refusals.specs.declared.Refusal.{Refusal}
use Rattle.opening.specs.Opened.{OpenLeft, scratch_zeroed}
use Rattle.std.specs.Prelude.{Ok, Err}
use Rattle.opening.proofs.Using.{usable-before}
use Rattle.tables.specs.declared.Layout.{Layout}
use Rattle.tables.specs.Answered.{Answered, AnsweredInto}
use Rattle.calling.proofs.Calling.{
  refused_call,
  refused_into,
  answered_call,
  answered_into,
  answered_still,
  same_outcomes_so,
}

-- ---- a refusal at opening

module _ {b a : List ℕ} {x : Refusal} {m : List ℕ} (known : OpenLeft b a (Err x) m) where
  pub line_refused : (list : List ℕ) → record { answer = refused_by x; area = m } ≡ is_node_convex b a list
  unfolding is_node_convex
  line_refused list = refused_call known (line_rules b list) (line_check b a list)

  pub by_records_refused : (words : List ℕ) (n : ℕ) → record { answer = refused_by x; area = m } ≡ is_convex_by_intervals b a words n
  unfolding is_convex_by_intervals
  by_records_refused words n = refused_call known _ _

  pub intervals_refused : (list buffer : List ℕ) → record { answer = refused_by x; area = m; buffer = buffer } ≡ get_intervals_from_nodes b a list buffer
  unfolding get_intervals_from_nodes
  intervals_refused list buffer = refused_into known _ _ buffer _

  pub extend_refused : (words : List ℕ) (n v : ℕ) → record { answer = refused_by x; area = m; buffer = words } ≡ try_extend_intervals b a words n v
  unfolding try_extend_intervals
  extend_refused words n v = refused_into known _ _ words _

  pub nodes_refused : (words : List ℕ) (n : ℕ) (buffer : List ℕ) → record { answer = refused_by x; area = m; buffer = buffer } ≡ nodes_in_intervals b a words n buffer
  unfolding nodes_in_intervals
  nodes_refused words n buffer = refused_into known _ _ buffer _

  pub port_refused : (p : ℕ) → record { answer = refused_by x; area = m } ≡ lines_at_port b a p
  unfolding lines_at_port
  port_refused p = refused_call known _ _

-- ---- an answer on the opened area

module _ {b a : List ℕ} {at : Layout} {m : List ℕ} (known : OpenLeft b a (Ok at) m) {z exit : List ℕ}
    (cleared : exit ≡ scratch_zeroed z at) where
  pub line_answered : {x : Answer (Reply × ℕ)} (list : List ℕ) → Answered at m z x (line_rules b list) (line_check b m list)
      → record { answer = x; area = exit } ≡ is_node_convex b a list
  unfolding is_node_convex call
  line_answered list asked = answered_call known asked cleared (line_rules b list) (line_check b a list) ((same_outcomes_so known).line_check list)

  pub by_records_answered : {x : Answer (Reply × ℕ)} (words : List ℕ) (k : ℕ)
      → Answered at m z x (rule8 k ∷ rule12 b m words k ∷ rule13 b m (records_in words k) ∷ []) (walk b m (records_in words k))
      → record { answer = x; area = exit } ≡ is_convex_by_intervals b a words k
  unfolding is_convex_by_intervals call
  by_records_answered words k asked = answered_call known asked cleared _ _ ((same_outcomes_so known).check_by_records words k)

  pub intervals_answered : {x : Answer Written} (list : List ℕ) {buffer after : List ℕ}
      → AnsweredInto at m z x (rule9 b list ∷ rule10 list ∷ rule11 (whole_records buffer) (needed (intervals b m list)) ∷ []) (said (intervals b m list))
      buffer
      after
      (words_of (intervals b m list))
      → record { answer = x; area = exit; buffer = after } ≡ get_intervals_from_nodes b a list buffer
  unfolding get_intervals_from_nodes call_into
  intervals_answered list {buffer} asked = answered_into known asked cleared _ _ (words_of (intervals b a list)) ((same_outcomes_so known).intervals list buffer)

  pub extend_answered : {x : Answer Written} {words after : List ℕ} (k v : ℕ)
      → AnsweredInto at m z x
      (rule9 b (v ∷ []) ∷ rule12 b m words k ∷ rule13 b m (records_in words k)
      ∷ rule11 (whole_records words) (needed (extend b m (records_in words k) v))
      ∷ [])
      (said (extend b m (records_in words k) v)) words after (words_of (extend b m (records_in words k) v))
      → record { answer = x; area = exit; buffer = after } ≡ try_extend_intervals b a words k v
  unfolding try_extend_intervals call_into
  extend_answered {words = words} k v asked = answered_into known asked cleared _ _ (words_of (extend b a (records_in words k) v)) ((same_outcomes_so known).extending words k v)

  pub nodes_answered : {x : Answer ℕ} (words : List ℕ) (k : ℕ) {buffer after : List ℕ}
      → AnsweredInto at m z x
      (rule12 b m words k ∷ rule13 b m (records_in words k) ∷ rule11 (length buffer) (length (nodes_in b m (records_in words k))) ∷ [])
      (length (nodes_in b m (records_in words k))) buffer after (nodes_in b m (records_in words k))
      → record { answer = x; area = exit; buffer = after } ≡ nodes_in_intervals b a words k buffer
  unfolding nodes_in_intervals call_into
  nodes_answered words k {buffer} asked = answered_into known asked cleared _ _ (nodes_in b a (records_in words k)) ((same_outcomes_so known).nodes_in_records words k buffer)

-- ---- a port, which the area has nothing to do with

module _ (b : List ℕ) {p : ℕ} (ports : P b ≡ p) (q : ℕ) where
  pub unknown_port_lem : p ≤ q → refusal 14 0 ≡ rule14 b (q ∷ [])
  unfolding rule14 refuse earliest
  unknown_port_lem h = ap (λ (t : Bool). refuse 14 (placed t 0)) (sym (le-leb (P b) q (omega (arith, ports))))

  pub known-port : q < p → passed ≡ rule14 b (q ∷ [])
  unfolding rule14 refuse earliest
  known-port h = ap (λ (t : Bool). refuse 14 (placed t 0)) (sym (lt-leb (P b) q (omega (arith, ports))))

module _ {b a : List ℕ} {at : Layout} {m : List ℕ} (known : OpenLeft b a (Ok at) m) (q : ℕ) where
  pub port_unknown : at.sizes.ports ≤ q → record { answer = refused 14 0; area = m } ≡ lines_at_port b a q
  unfolding lines_at_port answer decide
  port_unknown h =
      answered_still known (port_rule b q) (first_line b q, line_count_at b q)
      (ap (λ (u : Ruling). answer (decide (u ∷ [])) (first_line b q, line_count_at b q)) (unknown_port_lem b (usable-before known).read.ports q h))

  pub port_answered : q < at.sizes.ports → {first count : ℕ} → first ≡ first_line b q → count ≡ line_count_at b q
      → record { answer = answered (first, count); area = m } ≡ lines_at_port b a q
  unfolding lines_at_port answer decide
  port_answered h e f =
      answered_still known (port_rule b q) (first_line b q, line_count_at b q) (
      ap₂ (λ (x y : ℕ). answered (x, y)) e f
      ∙ ap (λ (u : Ruling). answer (decide (u ∷ [])) (first_line b q, line_count_at b q)) (known-port b (usable-before known).read.ports q h)
      )
