-- The path and the checks agree on every list that they answer, contiguous or not: "no path" exactly when the line check says yes, and the order check.
-- Rests on Promise and convexity_theory's Promise and Unique.
use Prim.Native.Nat.{ℕ}
use native.Mathlib.Omega.{arith}
use mathlib.Core.Path.{◌≡◌, sym, ◌∙◌}
use mathlib.Core.Logic.Iff
use mathlib.Core.Logic.{◌↔◌}
use mathlib.Core.List.{List}
use Rattle.paper.specs.Path.{Shown, steps, no_steps}
use Rattle.paper.specs.Intervals.{Yes}
use Rattle.paper.specs.Refusals.{Answer, answered}
use Rattle.paper.specs.Calls.{is_node_convex, topo_is_node_convex, show_path}
use Rattle.paper.specs.Plain.{Convex}
use Rattle.paper.specs.Promise.{Trusted, StepList, PathPromise, given, none, no_room}
use Rattle.paper.proofs.Promise.{never_answered, same_answer}
use Rattle.convexity_theory.proofs.trust.Promise.{line_promise, order_promise}
use Rattle.convexity_theory.proofs.trust.Unique.{line_yes, order_yes}
use Rattle.path_theory.proofs.NoPath.{bent}
use Rattle.path_theory.proofs.Promise.{path_promise}

-- ---- "no path" exactly when

no_steps_lem : {n : ℕ} → steps n ≡ no_steps → ⊥
no_steps_lem e = let z : ◌≡◌ {A = ℕ} 0 1 = cc in omega arith

-- by the promise alone
pub path-none : {b list before after : List ℕ} {said : Answer Shown} → PathPromise b list before after said → (said ≡ answered no_steps) ↔ Convex b list
path-none (given vs it e left) = (
  λ q. absurd (no_steps_lem (same_answer (sym e ∙ q))),
  λ convex. absurd (bent it.path convex),
)
path-none (none convex e) = (λ q. convex, λ c. e)
path-none (no_room vs it e short) = (λ q. absurd (never_answered (sym e ∙ q)), λ convex. absurd (bent it.path convex))

module _ {b a list : List ℕ} (t : Trusted b a) (s : StepList b list) (buffer : List ℕ) where
  -- .. the line check says yes
  pub path_agrees : ((show_path b a list buffer).answer ≡ answered no_steps) ↔ ((c : ℕ) × ((is_node_convex b a list).answer ≡ answered (Yes, c)))
  path_agrees = Iff.trans (path-none (path_promise t s buffer)) (Iff.symm (line_yes (line_promise t s)))

  -- .. the order check says yes
  pub path_agrees_with_order : ((show_path b a list buffer).answer ≡ answered no_steps) ↔ ((topo_is_node_convex b a list).answer ≡ answered Yes)
  path_agrees_with_order = Iff.trans (path-none (path_promise t s buffer)) (Iff.symm (order_yes (order_promise t s.known)))
