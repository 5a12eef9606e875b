-- Two areas at whose opening every call is refused alike: whatever would be asked of them, the outcome is the same.
-- Rests on accepted_theory's Alike and Ports, and refusals' Rulings.
use Prim.Native.Nat.{ℕ}
use mathlib.Core.Path.{◌≡◌, sym, ◌∙◌}
use mathlib.Core.Logic.{◌≢◌}
use mathlib.Core.List.{List, ◌++◌}
use Rattle.paper.specs.Refusals.{Ruling, passed, answer, on_refusal, decide}
use Rattle.paper.specs.Calls.{
  opening,
  call,
  call_into,
  prepare,
  is_node_convex,
  topo_is_node_convex,
  is_convex,
  topo_is_convex,
  get_intervals_from_nodes,
  is_convex_by_intervals,
  try_extend_intervals,
  nodes_in_intervals,
  show_path,
  lines_at_port,
  view_at,
}
use Rattle.accepted_theory.specs.SameOutcomes.{SameAnswer, SameOutcomes}
use Rattle.accepted_theory.proofs.Alike.{Alike, same_answer, same_kept}
use Rattle.accepted_theory.proofs.Ports.{view-lines}
use Rattle.refusals.proofs.Rulings.{first_decides}

-- what opens every call refuses both areas by the same rule
pub record Shut (b a c : List ℕ) : Type 0 where
  pub same : decide (opening b a) ≡ decide (opening b c)
  pub out : decide (opening b a) ≢ passed

module _ {b a c : List ℕ} (shut : Shut b a c) where
  alike : {A : Type 0} (rs ss : List Ruling) (x y : A) → Alike (opening b a ++ rs) (opening b c ++ ss) x y
  alike rs ss x y =
      let first = first_decides (opening b a) rs shut.out in
      let other = first_decides (opening b c) ss (λ e. shut.out (shut.same ∙ e)) in
      record { rulings = first ∙ shut.same ∙ sym other; results = λ e. absurd (shut.out (sym first ∙ e)) }

  says : {A : Type 0} (rs ss : List Ruling) (x y : A) → answer (decide (opening b a ++ rs)) x ≡ answer (decide (opening b c ++ ss)) y
  says rs ss x y = same_answer (alike rs ss x y) (λ z. z)

  keeps : (rs ss : List Ruling) (kept x y : List ℕ) → on_refusal (decide (opening b a ++ rs)) kept x ≡ on_refusal (decide (opening b c ++ ss)) kept y
  keeps rs ss kept x y = same_kept (alike rs ss x y) kept (λ z. z)

  pub refused_alike : SameAnswer (prepare b a) (prepare b c) → SameOutcomes b a c
  unfolding is_node_convex topo_is_node_convex is_convex topo_is_convex get_intervals_from_nodes is_convex_by_intervals try_extend_intervals nodes_in_intervals show_path lines_at_port view_at call call_into
  refused_alike preparing =
      record {
        preparing = preparing;
        line_check = λ list. says _ _ _ _;
        order_check = λ list. says _ _ _ _;
        line_check_with_ports = λ list inputs outputs. says _ _ _ _;
        order_check_with_ports = λ list inputs outputs. says _ _ _ _;
        intervals = λ list buffer. (says _ _ _ _, keeps _ _ _ _ _);
        check_by_records = λ words n. says _ _ _ _;
        extending = λ words n v. (says _ _ _ _, keeps _ _ _ _ _);
        nodes_in_records = λ words n buffer. (says _ _ _ _, keeps _ _ _ _ _);
        path_shown = λ list buffer. (says _ _ _ _, keeps _ _ _ _ _);
        lines_at_one = λ p. says _ _ _ _;
        view_place = λ p. says _ _ _ _;
        view = λ p. view-lines b a p ∙ keeps _ _ _ _ _ ∙ sym (view-lines b c p);
      }
