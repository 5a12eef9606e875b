-- What the exported checks tell keeps demand 3's promise: heard by a host, it is the answer of the paper's call on the words of the lent bytes. So does
-- the path, with its steps as they are read from the lent bytes.
-- Rests on paper's Heard, convexity_theory, path_theory and words.
use Prim.Native.Nat.{ℕ, ◌/◌}
use mathlib.Core.Path.{◌≡◌, refl, sym, ap, ◌∙◌, subst}
use mathlib.Core.List.{List, [], ◌∷◌, ◌++◌}
use lib.ListN.{length}
use lib.Seq.{sets, length-sets}
use Rattle.paper.specs.Refusals.{Ruling, passed, refusal, decide, on_refusal}
use Rattle.paper.specs.Calls.{opening, call_into, is_node_convex, topo_is_node_convex, is_convex, topo_is_convex, show_path}
use Rattle.paper.specs.Exports.{Export, ExportWith, export, export_with, in_line_reply, in_reply, in_shown, heard_line, heard_order, heard_path}
use Rattle.paper.specs.Words.{words_from}
use Rattle.paper.specs.Promise.{
  Trusted,
  KnownSteps,
  StepList,
  KnownPorts,
  LinePromise,
  OrderPromise,
  LinePortsPromise,
  OrderPortsPromise,
  PathPromise,
}
use Rattle.paper.proofs.Heard.{line_heard_told, order_heard_told, path_heard_told}
use Rattle.words.proofs.Turns.{length-words_from}
use Rattle.words.proofs.Buffers.{put_and_read}
use Rattle.convexity_theory.proofs.trust.Promise.{line_promise, order_promise, line-ports_promise, order-ports_promise}
use Rattle.path_theory.proofs.Promise.{path_promise}

-- ---- the line check: case, count, number and place as they are told, over count, number and place as they were (c₀, n₀, p₀)

module _ {b a list after : List ℕ} {case count number place : ℕ} (bytes : List ℕ) (c₀ n₀ p₀ : ℕ) where
  pub line_kept : record { told = record { case = case; values = count ∷ []; number = number; place = place }; area = after }
      ≡ export in_line_reply (c₀ ∷ []) n₀ p₀ bytes (is_node_convex b a list)
      → Trusted b a
      → StepList b list
      → LinePromise b a list (heard_line case count number place)
  unfolding export
  line_kept e trusted steps =
      subst (LinePromise b a list) (sym (line_heard_told _ c₀ n₀ p₀ (ap (λ (x : Export). x.told) e))) (line_promise trusted steps)

  pub line-ports-kept : {inputs outputs : List ℕ}
      → record { told = record { case = case; values = count ∷ []; number = number; place = place }; area = after }
      ≡ export in_line_reply (c₀ ∷ []) n₀ p₀ bytes (is_convex b a list inputs outputs)
      → Trusted b a
      → StepList b list
      → KnownPorts b inputs
      → KnownPorts b outputs
      → LinePortsPromise b a list inputs outputs (heard_line case count number place)
  unfolding export
  line-ports-kept {inputs} {outputs} e trusted steps ins outs =
      subst (LinePortsPromise b a list inputs outputs) (sym (line_heard_told _ c₀ n₀ p₀ (ap (λ (x : Export). x.told) e)))
      (line-ports_promise trusted (ins, outs) steps)

-- ---- the order check, which has no count

module _ {b a list after : List ℕ} {case number place : ℕ} (bytes : List ℕ) (n₀ p₀ : ℕ) where
  pub order-kept : record { told = record { case = case; values = []; number = number; place = place }; area = after }
      ≡ export in_reply [] n₀ p₀ bytes (topo_is_node_convex b a list)
      → Trusted b a
      → KnownSteps b list
      → OrderPromise b list (heard_order case number place)
  unfolding export
  order-kept e trusted known =
      subst (OrderPromise b list) (sym (order_heard_told _ n₀ p₀ (ap (λ (x : Export). x.told) e))) (order_promise trusted known)

  pub order-ports-kept : {inputs outputs : List ℕ}
      → record { told = record { case = case; values = []; number = number; place = place }; area = after }
      ≡ export in_reply [] n₀ p₀ bytes (topo_is_convex b a list inputs outputs)
      → Trusted b a
      → KnownSteps b list
      → KnownPorts b inputs
      → KnownPorts b outputs
      → OrderPortsPromise b list inputs outputs (heard_order case number place)
  unfolding export
  order-ports-kept {inputs} {outputs} e trusted known ins outs =
      subst (OrderPortsPromise b list inputs outputs) (sym (order_heard_told _ n₀ p₀ (ap (λ (x : Export). x.told) e)))
      (order-ports_promise trusted (ins, outs) known)

-- ---- the path: the host reads its steps from the buffer

-- a call leaves its buffer as long as it was
left-long : {A : Type 0} (b a : List ℕ) (rules : List Ruling) (x : A) (words result : List ℕ) → length (call_into b a rules x words result).buffer ≡ length words
unfolding call_into on_refusal
left-long b a rules x words result = by (decide (opening b a ++ rules))
  where
    by : (u : Ruling) → length (on_refusal u words (sets words 0 result)) ≡ length words
    by passed = length-sets words 0 result
    by (refusal n i) = refl

module _ {b a list after left : List ℕ} {case count number place : ℕ} (bytes buffer : List ℕ) (c₀ n₀ p₀ : ℕ) where
  pub path-kept : record { told = record { case = case; values = count ∷ []; number = number; place = place }; area = after; buffer = left }
      ≡ export_with in_shown (c₀ ∷ []) n₀ p₀ bytes buffer (show_path b a list (words_from buffer))
      → Trusted b a
      → StepList b list
      → PathPromise b list (words_from buffer) (words_from left) (heard_path case count number place)
  unfolding export_with show_path
  path-kept e trusted steps =
      subst (PathPromise b list (words_from buffer) (words_from left)) (sym (path_heard_told _ c₀ n₀ p₀ (ap (λ (x : ExportWith). x.told) e)))
      (subst (λ (words : List ℕ). PathPromise b list (words_from buffer) words (show_path b a list (words_from buffer)).answer) (sym stands)
      (path_promise trusted steps (words_from buffer)))
    where
      long : length (show_path b a list (words_from buffer)).buffer ≡ length buffer / 2
      long = left-long b a _ _ (words_from buffer) _ ∙ length-words_from buffer

      stands : words_from left ≡ (show_path b a list (words_from buffer)).buffer
      stands = ap (λ (x : ExportWith). words_from x.buffer) e ∙ put_and_read buffer (show_path b a list (words_from buffer)).buffer long
