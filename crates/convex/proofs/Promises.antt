-- The checks' answers keep demand 3's promise, and the path its own: each is what the paper's call leaves.
-- Rests on convexity_theory and path_theory.
use Prim.Native.Nat.{ℕ}
use mathlib.Core.Path.{◌≡◌, sym, ap, subst}
use mathlib.Core.List.{List}
use Rattle.paper.specs.Intervals.{Reply}
use Rattle.paper.specs.Path.{Shown}
use Rattle.paper.specs.Refusals.{Answer}
use Rattle.paper.specs.Calls.{Left, LeftWith, is_node_convex, topo_is_node_convex, is_convex, topo_is_convex, show_path}
use Rattle.paper.specs.Promise.{
  Trusted,
  KnownSteps,
  StepList,
  KnownPorts,
  LinePromise,
  OrderPromise,
  LinePortsPromise,
  OrderPortsPromise,
  PathPromise,
}
use Rattle.convexity_theory.proofs.trust.Promise.{line_promise, order_promise, line-ports_promise, order-ports_promise}
use Rattle.path_theory.proofs.Promise.{path_promise}

-- the answer that a call leaves
answers : {A : Type 0} {said : Answer A} {m : List ℕ} {left : Left A} → record { answer = said; area = m } ≡ left → left.answer ≡ said
answers {A} e = sym (ap (λ (x : Left A). x.answer) e)

module _ {b a list m : List ℕ} where
  pub line_kept : {said : Answer (Reply × ℕ)} → record { answer = said; area = m } ≡ is_node_convex b a list → Trusted b a → StepList b list
      → LinePromise b a list said
  line_kept e trusted steps = subst (LinePromise b a list) (answers e) (line_promise trusted steps)

  pub order-kept : {said : Answer Reply} → record { answer = said; area = m } ≡ topo_is_node_convex b a list → Trusted b a → KnownSteps b list
      → OrderPromise b list said
  order-kept e trusted known = subst (OrderPromise b list) (answers e) (order_promise trusted known)

  module _ {inputs outputs : List ℕ} where
    pub line-ports-kept : {said : Answer (Reply × ℕ)} → record { answer = said; area = m } ≡ is_convex b a list inputs outputs → Trusted b a
        → StepList b list
        → KnownPorts b inputs
        → KnownPorts b outputs
        → LinePortsPromise b a list inputs outputs said
    line-ports-kept e trusted steps ins outs =
        subst (LinePortsPromise b a list inputs outputs) (answers e) (line-ports_promise trusted (ins, outs) steps)

    pub order-ports-kept : {said : Answer Reply} → record { answer = said; area = m } ≡ topo_is_convex b a list inputs outputs → Trusted b a
        → KnownSteps b list
        → KnownPorts b inputs
        → KnownPorts b outputs
        → OrderPortsPromise b list inputs outputs said
    order-ports-kept e trusted known ins outs =
        subst (OrderPortsPromise b list inputs outputs) (answers e) (order-ports_promise trusted (ins, outs) known)

-- what is left keeps the promise
pub path-kept : {b a list buffer m after : List ℕ} {said : Answer Shown} → record { answer = said; area = m; buffer = after } ≡ show_path b a list buffer
    → Trusted b a → StepList b list → PathPromise b list buffer after said
path-kept {b} {list = list} {buffer} e trusted steps =
    subst (λ (left : LeftWith Shown). PathPromise b list buffer left.buffer left.answer) (sym e) (path_promise trusted steps buffer)
