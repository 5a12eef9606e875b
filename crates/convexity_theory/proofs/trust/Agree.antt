-- The checks agree: the line check and the order check, check by records on the records of a list, and the checks with ports where no port conflicts.
-- Rests on Promise, Unique, Kept and accepted_theory.ByRecords.
use Prim.Native.Nat.{ℕ, ◌≤◌}
use native.Mathlib.Omega.{arith}
use mathlib.Core.Path.{◌≡◌, refl, sym, ap, ap₂, ◌∙◌, subst}
use mathlib.Core.Logic.Iff
use mathlib.Core.Logic.{◌↔◌}
use mathlib.Core.Bool.{Bool, false, cond}
use mathlib.Core.List.{List, [], ◌∷◌, ◌++◌, append_assoc}
use lib.ListN.{length}
use lib.Seq.{sets}
use Rattle.lists.specs.Bounds.{Below}
use Rattle.paper.specs.Map.{N}
use Rattle.paper.specs.Intervals.{Reply, Yes, No, Interval, Records, records, apart, intervals}
use Rattle.paper.specs.Walk.{line_check}
use Rattle.paper.specs.OrderCheck.{order_check}
use Rattle.paper.specs.Records.{words_of_records}
use Rattle.paper.specs.Ports.{conflict}
use Rattle.paper.specs.Refusals.{Ruling, passed, refusal, rule9, rule10, rule11, whole_records, decide, answered, answer, on_refusal}
use Rattle.paper.specs.Calls.{
  area_after,
  opening,
  call,
  call_into,
  line_rules,
  order_rules,
  port_rules,
  is_node_convex,
  topo_is_node_convex,
  is_convex,
  topo_is_convex,
  wrote,
  found_apart,
  said,
  words_of,
  needed,
  get_intervals_from_nodes,
  is_convex_by_intervals,
}
use Rattle.paper.specs.Promise.{Trusted, StepList, KnownPorts, LinePromise}
use Rattle.accepted_theory.proofs.Every.{below-every}
use Rattle.accepted_theory.proofs.Refusals.{nodes-passed}
use Rattle.accepted_theory.proofs.recorded.ByRecords.{by_written-records}
use Rattle.convexity_theory.proofs.trust.Rules.{rule9_passes, rule11_passes}
use Rattle.convexity_theory.proofs.trust.Passing.{not_refused, each_passes, both_pass, ports_pass}
use Rattle.convexity_theory.proofs.trust.Promise.{line_promise, order_promise}
use Rattle.convexity_theory.proofs.trust.Unique.{line_yes, order_yes}
use Rattle.convexity_theory.proofs.trust.Kept.{asked_again}

-- ---- "both checkers say yes exactly when .."

module _ {b a list : List ℕ} (t : Trusted b a) (s : StepList b list) where
  pub checkers_agree : ((c : ℕ) × ((is_node_convex b a list).answer ≡ answered (Yes, c))) ↔ ((topo_is_node_convex b a list).answer ≡ answered Yes)
  checkers_agree = Iff.trans (line_yes (line_promise t s)) (Iff.symm (order_yes (order_promise t s.known)))

-- ---- with ports

-- rules that pass change nothing
pub passing-last : (us vs : List Ruling) → decide vs ≡ passed → decide (us ++ vs) ≡ decide us
unfolding decide
passing-last [] vs e = e
passing-last (passed ∷ us) vs e = passing-last us vs e
passing-last (refusal n p ∷ us) vs e = refl

module _ (b a list inputs outputs : List ℕ) (ports : KnownPorts b inputs × KnownPorts b outputs) (clear : conflict b inputs outputs ≡ false) where
  ports-ask_nothing : (us : List Ruling) → decide (opening b a ++ (us ++ port_rules b inputs outputs)) ≡ decide (opening b a ++ us)
  ports-ask_nothing us =
      ap decide (sym (append_assoc (opening b a) us (port_rules b inputs outputs)))
      ∙ passing-last (opening b a ++ us) (port_rules b inputs outputs) ((ports_pass b inputs outputs).1 ports)

  -- refusals too, and the area that is left
  pub ports_agree : is_convex b a list inputs outputs ≡ is_node_convex b a list
  unfolding is_convex is_node_convex call
  ports_agree =
      ap₂ (λ (u : Ruling) (x : Reply × ℕ). record { answer = answer u x; area = area_after b a }) (ports-ask_nothing (line_rules b list))
      (ap (λ (c : Bool). cond c (No, 0) (line_check b a list)) clear)

  pub order-ports_agree : topo_is_convex b a list inputs outputs ≡ topo_is_node_convex b a list
  unfolding topo_is_convex topo_is_node_convex call
  order-ports_agree =
      ap₂ (λ (u : Ruling) (x : Reply). record { answer = answer u x; area = area_after b a }) (ports-ask_nothing (order_rules b list))
      (ap (λ (c : Bool). cond c No (order_check b a list)) clear)

-- ---- by records

-- what it says that n records were written
record Wrote (b a list buffer : List ℕ) (n : ℕ) : Type 0 where
  which : List Interval
  found : intervals b a list ≡ records which
  many : length which ≡ n
  fits : length which ≤ whole_records buffer
  words : (get_intervals_from_nodes b a list buffer).buffer ≡ sets buffer 0 (words_of_records which)

written : (b a list buffer : List ℕ) {n : ℕ} → (get_intervals_from_nodes b a list buffer).answer ≡ answered (wrote n) → Wrote b a list buffer n
unfolding get_intervals_from_nodes call_into opening on_refusal said words_of needed
written b a list buffer {n} e = go (intervals b a list) refl e
  where
    rules : Records → List Ruling
    rules found = rule9 b list ∷ rule10 list ∷ rule11 (whole_records buffer) (needed found) ∷ []

    some : found_apart ≡ wrote n → ⊥
    some q = let z : ◌≡◌ {A = ℕ} 0 1 = cc in omega arith

    go : (found : Records) → intervals b a list ≡ found → answer (decide (opening b a ++ rules found)) (said found) ≡ answered (wrote n)
        → Wrote b a list buffer n
    go apart q e = absurd (some (not_refused found_apart (decide (opening b a ++ rules apart)) e).1)
    go (records rs) q e =
        let r = not_refused (wrote (length rs)) (decide (opening b a ++ rules (records rs))) e in
        let last = (each_passes (rules (records rs))).0 ((both_pass (opening b a) (rules (records rs))).0 r.0).1 in
        record {
          which = rs;
          found = q;
          many = cc r.1;
          fits = (rule11_passes (whole_records buffer) (length rs)).0 last.1.1.0;
          words =
              ap (λ (f : Records). on_refusal (decide (opening b a ++ rules f)) buffer (sets buffer 0 (words_of f))) q
              ∙ ap (λ (u : Ruling). on_refusal u buffer (sets buffer 0 (words_of_records rs))) r.0;
        }

module _ {b a list : List ℕ} (t : Trusted b a) (s : StepList b list) (buffer : List ℕ) {n : ℕ}
    (wrote-n : (get_intervals_from_nodes b a list buffer).answer ≡ answered (wrote n)) where
  known-below : Below (N b) list
  known-below = below-every (N b) list (nodes-passed b list ((rule9_passes b list).1 s.known))

  on_the_records : is_convex_by_intervals b a (get_intervals_from_nodes b a list buffer).buffer n ≡ is_node_convex b a list
  on_the_records =
      let w = written b a list buffer wrote-n in
      ap₂ (is_convex_by_intervals b a) w.words (sym w.many)
      ∙ by_written-records b a list s.not_empty s.once known-below w.found buffer w.fits

  -- intervals, then check by records on what they left, answer as the line check
  pub records_agree : (is_convex_by_intervals b (get_intervals_from_nodes b a list buffer).area (get_intervals_from_nodes b a list buffer).buffer n).answer
      ≡ (is_node_convex b a list).answer
  unfolding get_intervals_from_nodes call_into
  records_agree =
      sym ((asked_again t).check_by_records (get_intervals_from_nodes b a list buffer).buffer n) ∙ ap (λ r. r.answer) on_the_records

  pub records_promise : LinePromise b a list
      (is_convex_by_intervals b (get_intervals_from_nodes b a list buffer).area (get_intervals_from_nodes b a list buffer).buffer n).answer
  records_promise = subst (LinePromise b a list) (sym records_agree) (line_promise t s)
