-- The calls of the order checker, and the line check with ports, from their opening: a refusal passed up, or what the question answered on
-- the opened area.
-- Rests on Calling.
use Prim.Native.Nat.{ℕ}
use mathlib.Core.Path.{◌≡◌}
use mathlib.Core.Bool.{cond}
use mathlib.Core.List.{List, ◌++◌}
use Rattle.paper.specs.Intervals.{Reply, No}
use Rattle.paper.specs.Walk.{line_check}
use Rattle.paper.specs.OrderCheck.{order_check}
use Rattle.paper.specs.Ports.{conflict}
use Rattle.paper.specs.Refusals.{Answer}
use Rattle.paper.specs.Calls.{call, line_rules, order_rules, port_rules, topo_is_node_convex, is_convex, topo_is_convex}
use Rattle.refusals.specs.Said.{refused_by}
use Rattle.refusals.specs.declared.Refusal.{Refusal}
use Rattle.opening.specs.Opened.{OpenLeft, scratch_zeroed}
use Rattle.std.specs.Prelude.{Ok, Err}
use Rattle.tables.specs.declared.Layout.{Layout}
use Rattle.tables.specs.Answered.{Answered}
use Rattle.calling.proofs.Calling.{refused_call, answered_call, same_outcomes_so}

module _ {b a : List ℕ} {x : Refusal} {m : List ℕ} (known : OpenLeft b a (Err x) m) where
  pub order_refused : (list : List ℕ) → record { answer = refused_by x; area = m } ≡ topo_is_node_convex b a list
  unfolding topo_is_node_convex
  order_refused list = refused_call known (order_rules b list) (order_check b a list)

  -- .. with ports

  pub line-ports_refused : (list inputs outputs : List ℕ) → record { answer = refused_by x; area = m } ≡ is_convex b a list inputs outputs
  unfolding is_convex
  line-ports_refused list inputs outputs = refused_call known _ _

  pub order-ports_refused : (list inputs outputs : List ℕ) → record { answer = refused_by x; area = m } ≡ topo_is_convex b a list inputs outputs
  unfolding topo_is_convex
  order-ports_refused list inputs outputs = refused_call known _ _

module _ {b a : List ℕ} {at : Layout} {m : List ℕ} (known : OpenLeft b a (Ok at) m) {z exit : List ℕ} (cleared : exit ≡ scratch_zeroed z at) (list : List ℕ) where
  pub order_answered : {x : Answer Reply} → Answered at m z x (order_rules b list) (order_check b m list) → record { answer = x; area = exit } ≡ topo_is_node_convex b a list
  unfolding topo_is_node_convex call
  order_answered asked = answered_call known asked cleared (order_rules b list) (order_check b a list) ((same_outcomes_so known).order_check list)

  -- .. with ports

  module _ (inputs outputs : List ℕ) where
    pub line-ports_answered : {x : Answer (Reply × ℕ)}
        → Answered at m z x (line_rules b list ++ port_rules b inputs outputs) (cond (conflict b inputs outputs) (No, 0) (line_check b m list))
        → record { answer = x; area = exit } ≡ is_convex b a list inputs outputs
    unfolding is_convex call
    line-ports_answered asked = answered_call known asked cleared _ _ ((same_outcomes_so known).line_check_with_ports list inputs outputs)

    pub order-ports_answered : {x : Answer Reply}
        → Answered at m z x (order_rules b list ++ port_rules b inputs outputs) (cond (conflict b inputs outputs) No (order_check b m list))
        → record { answer = x; area = exit } ≡ topo_is_convex b a list inputs outputs
    unfolding topo_is_convex call
    order-ports_answered asked = answered_call known asked cleared _ _ ((same_outcomes_so known).order_check_with_ports list inputs outputs)
