-- Demand 3: each check keeps its promise, on any accepted tables; and a check that answers at all was asked as the promise wants.
-- Rests on Passing, convexity_theory (the line check) and convexity_theory (the order check).
use Prim.Native.Nat.{ℕ}
use mathlib.Core.Path.{◌≡◌, refl, sym, ap, ◌∙◌, subst}
use mathlib.Core.Logic.{◌↔◌}
use mathlib.Core.Bool.{Bool, true, false, true≢false, cond}
use mathlib.Core.List.{List, ◌++◌}
use Rattle.paper.specs.Intervals.{Reply, Yes, No}
use Rattle.paper.specs.Walk.{line_check}
use Rattle.paper.specs.OrderCheck.{order_check}
use Rattle.paper.specs.Ports.{conflict}
use Rattle.paper.specs.Refusals.{decide, Answer, answered}
use Rattle.paper.specs.Calls.{
  opening,
  call,
  line_rules,
  order_rules,
  port_rules,
  is_node_convex,
  topo_is_node_convex,
  is_convex,
  topo_is_convex,
}
use Rattle.paper.specs.Plain.{Convex, Ahead, Number}
use Rattle.paper.specs.Promise.{
  Trusted,
  KnownSteps,
  StepList,
  KnownPorts,
  LinePromise,
  OrderPromise,
  LinePortsPromise,
  OrderPortsPromise,
}
use Rattle.paper.proofs.Promise.{no_yes}
use Rattle.convexity_theory.proofs.Convexity.{line_convex, line-count}
use Rattle.convexity_theory.proofs.places.Convex.{order_convex}
use Rattle.convexity_theory.proofs.trust.Passing.{answers, not_refused, trusted-sound, line_passes, order_passes, line-ports_pass, order-ports_pass}

-- ---- what the two checks compute

module _ {b a : List ℕ} (t : Trusted b a) (list : List ℕ) where
  order-exactly : (order_check b a list ≡ Yes) ↔ Convex b list
  order-exactly = order_convex t.accepted_tables (trusted-sound t) t.room list

  says_yes_lem : (line_check b a list).0 ≡ Yes → line_check b a list ≡ (Yes, (line_check b a list).1)
  says_yes_lem e = ap (λ (r : Reply). (r, (line_check b a list).1)) e

  line-exactly : KnownSteps b list → ((line_check b a list).0 ≡ Yes) ↔ Convex b list
  line-exactly known = (
    λ e. (line_convex (trusted-sound t) t.accepted_tables t.room list known).0 ((line_check b a list).1, says_yes_lem e),
    λ c. ap (λ (r : Reply × ℕ). r.0) ((line_convex (trusted-sound t) t.accepted_tables t.room list known).1 c).1,
  )

  line-number : KnownSteps b list → (line_check b a list).0 ≡ Yes → Number (Ahead b a list) (line_check b a list).1
  line-number known e = line-count (trusted-sound t) t.accepted_tables t.room list known (line_check b a list).1 (says_yes_lem e)

-- ---- the checks keep their promises

module _ {b a : List ℕ} {list : List ℕ} (t : Trusted b a) where
  pub line_promise : StepList b list → LinePromise b a list (is_node_convex b a list).answer
  unfolding is_node_convex call
  line_promise s =
      record {
        reply = (line_check b a list).0;
        count = (line_check b a list).1;
        is = answers (line_check b a list) ((line_passes b a list).1 (t, s));
        exactly = line-exactly t list s.known;
        number = line-number t list s.known;
      }

  -- of any list of known steps, as a set
  pub order_promise : KnownSteps b list → OrderPromise b list (topo_is_node_convex b a list).answer
  unfolding topo_is_node_convex call
  order_promise known =
      record {
        reply = order_check b a list;
        is = answers (order_check b a list) ((order_passes b a list).1 (t, known));
        exactly = order-exactly t list;
      }

-- ---- with ports

-- a no for a conflict, and else the reply chosen
chosen : {r : Reply} {C : Type 0} (conflicting : Bool) → (r ≡ Yes) ↔ C → (cond conflicting No r ≡ Yes) ↔ ((conflicting ≡ false) × C)
chosen true exactly = (λ e. absurd (no_yes e), λ p. absurd (true≢false p.0))
chosen false exactly = (λ e. (refl, exactly.0 e), λ p. exactly.1 p.1)

module _ {b a : List ℕ} {list inputs outputs : List ℕ} (t : Trusted b a) (ports : KnownPorts b inputs × KnownPorts b outputs) where
  pub line-ports_promise : StepList b list → LinePortsPromise b a list inputs outputs (is_convex b a list inputs outputs).answer
  unfolding is_convex call
  line-ports_promise s = go (conflict b inputs outputs) refl
    where
      said : Answer (Reply × ℕ)
      said = (is_convex b a list inputs outputs).answer

      spoken : said ≡ answered (cond (conflict b inputs outputs) (No, 0) (line_check b a list))
      spoken =
          answers (cond (conflict b inputs outputs) (No, 0) (line_check b a list))
          ((line-ports_pass b a list inputs outputs).1 (t, (s, ports)))

      go : (conflicting : Bool) → conflict b inputs outputs ≡ conflicting → LinePortsPromise b a list inputs outputs said
      go true e =
          record {
            reply = No;
            count = 0;
            is = spoken ∙ ap (λ (c : Bool). answered (cond c (No, 0) (line_check b a list))) e;
            exactly = (λ n. absurd (no_yes n), λ p. absurd (true≢false (sym e ∙ p.0)));
            number = λ n. absurd (no_yes n);
            on_conflict = λ c. refl;
          }
      go false e =
          record {
            reply = (line_check b a list).0;
            count = (line_check b a list).1;
            is = spoken ∙ ap (λ (c : Bool). answered (cond c (No, 0) (line_check b a list))) e;
            exactly = (λ y. (e, (line-exactly t list s.known).0 y), λ p. (line-exactly t list s.known).1 p.1);
            number = line-number t list s.known;
            on_conflict = λ c. absurd (true≢false (sym c ∙ e));
          }

  pub order-ports_promise : KnownSteps b list → OrderPortsPromise b list inputs outputs (topo_is_convex b a list inputs outputs).answer
  unfolding topo_is_convex call
  order-ports_promise known =
      record {
        reply = cond (conflict b inputs outputs) No (order_check b a list);
        is =
            answers (cond (conflict b inputs outputs) No (order_check b a list))
            ((order-ports_pass b a list inputs outputs).1 (t, (known, ports)));
        exactly = chosen (conflict b inputs outputs) (order-exactly t list);
      }

-- ---- what is answered at all was asked as the promise wants

module _ (b a list : List ℕ) where
  pub answered_trusted : {x : Reply × ℕ} → (is_node_convex b a list).answer ≡ answered x → Trusted b a × StepList b list
  unfolding is_node_convex call
  answered_trusted e =
      (line_passes b a list).0 (not_refused (line_check b a list) (decide (opening b a ++ line_rules b list)) e).0

  -- and so the answer keeps the promise, whatever was asked
  pub answered_kept : {x : Reply × ℕ} → (is_node_convex b a list).answer ≡ answered x → LinePromise b a list (answered x)
  answered_kept e =
      let p = answered_trusted e in
      subst (LinePromise b a list) e (line_promise p.0 p.1)

  pub order_answered_trusted : {x : Reply} → (topo_is_node_convex b a list).answer ≡ answered x → Trusted b a × KnownSteps b list
  unfolding topo_is_node_convex call
  order_answered_trusted e =
      (order_passes b a list).0 (not_refused (order_check b a list) (decide (opening b a ++ order_rules b list)) e).0

  module _ (inputs outputs : List ℕ) where
    pub ports_answered_trusted : {x : Reply × ℕ} → (is_convex b a list inputs outputs).answer ≡ answered x
        → Trusted b a × (StepList b list × (KnownPorts b inputs × KnownPorts b outputs))
    unfolding is_convex call
    ports_answered_trusted e =
        (line-ports_pass b a list inputs outputs).0
        (not_refused (cond (conflict b inputs outputs) (No, 0) (line_check b a list))
        (decide (opening b a ++ (line_rules b list ++ port_rules b inputs outputs)))
        e
        ).0

    pub order-ports_answered_trusted : {x : Reply} → (topo_is_convex b a list inputs outputs).answer ≡ answered x
        → Trusted b a × (KnownSteps b list × (KnownPorts b inputs × KnownPorts b outputs))
    unfolding topo_is_convex call
    order-ports_answered_trusted e =
        (order-ports_pass b a list inputs outputs).0
        (not_refused (cond (conflict b inputs outputs) No (order_check b a list))
        (decide (opening b a ++ (order_rules b list ++ port_rules b inputs outputs)))
        e
        ).0
