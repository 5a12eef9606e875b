-- When no rule of a check refuses: exactly when its premises hold, and exactly then it answers.
-- Rests on Rules.
use Prim.Native.Nat.{ℕ, ◌<◌}
use mathlib.Core.Path.{◌≡◌, refl, ap}
use mathlib.Core.Logic.Iff
use mathlib.Core.Logic.{◌↔◌}
use mathlib.Core.Bool.{false}
use mathlib.Core.List.{List, [], ◌∷◌, ◌++◌}
use lib.ListN.{length}
use Rattle.paper.specs.Map.{L, missing, second}
use Rattle.paper.specs.Refusals.{Ruling, passed, refusal, rule45, rule7, decide, answered, answer}
use Rattle.paper.specs.Calls.{untouched, opening, line_rules, order_rules, port_rules}
use Rattle.paper.specs.Promise.{AcceptedMap, Trusted, KnownSteps, StepList, KnownPorts}
use Rattle.paper.proofs.Promise.{never_answered, same_answer}
use Rattle.order_theory.specs.Sound.{Sound}
use Rattle.order_theory.proofs.Refusals.{sound}
use Rattle.accepted_theory.specs.Every.{Every}
use Rattle.accepted_theory.proofs.Refusals.{not_passed}
use Rattle.convexity_theory.proofs.trust.Rules.{
  rule1_passes,
  rule2_passes,
  rule3_passes,
  rule45_passes,
  rule7_passes,
  rule8_passes,
  rule9_passes,
  rule10_passes,
  rule14_passes,
}

-- ---- an answer and its rules

module _ {A : Type 0} where
  pub answers : (x : A) {u : Ruling} → u ≡ passed → answer u x ≡ answered x
  unfolding answer
  answers x e = ap (λ (u : Ruling). answer u x) e

  -- what is answered was not refused, and is what would be answered
  pub not_refused : (x : A) (u : Ruling) {y : A} → answer u x ≡ answered y → (u ≡ passed) × (x ≡ y)
  unfolding answer
  not_refused x passed e = (refl, same_answer e)
  not_refused x (refusal n p) e = absurd (never_answered e)

-- ---- several rules

pub each_passes : (us : List Ruling) → (decide us ≡ passed) ↔ Every (λ (u : Ruling). u ≡ passed) us
unfolding decide
each_passes [] = (λ e. tt, λ p. refl)
each_passes (passed ∷ us) = (λ e. (refl, (each_passes us).0 e), λ p. (each_passes us).1 p.1)
each_passes (refusal n v ∷ us) = (λ e. absurd (not_passed e), λ p. absurd (not_passed p.0))

pub both_pass : (us vs : List Ruling) → (decide (us ++ vs) ≡ passed) ↔ ((decide us ≡ passed) × (decide vs ≡ passed))
unfolding decide
both_pass [] vs = (λ e. (refl, e), λ p. p.1)
both_pass (passed ∷ us) vs = both_pass us vs
both_pass (refusal n v ∷ us) vs = (λ e. absurd (not_passed e), λ p. absurd (not_passed p.0))

-- ---- the parts of a check

pub links-good : {b : List ℕ} → AcceptedMap b → (k : ℕ) → k < L b → (missing b k ≡ false) × (second b k ≡ false)
links-good m k h = (m.nothing_missing k h, m.no_second k h)

pub trusted-sound : {b a : List ℕ} → Trusted b a → Sound b
trusted-sound {b} t = sound b ((rule45_passes b).1 (links-good t.accepted_map))

pub opening_passes : (b a : List ℕ) → (decide (opening b a) ≡ passed) ↔ Trusted b a
unfolding opening untouched
opening_passes b a =
    Iff.trans (each_passes (opening b a)) (
      λ p.
          let links = (rule45_passes b).0 p.1.1.1.0 in
          record {
            accepted_map =
                record {
                  formed = (rule1_passes b).0 p.0;
                  limited = (rule2_passes b).0 p.1.0;
                  nothing_missing = λ k h. (links k h).0;
                  no_second = λ k h. (links k h).1;
                };
            accepted_tables = (rule7_passes b a).0 p.1.1.1.1.0;
            room = (rule3_passes b a).0 p.1.1.0;
          },
      λ t.
          let formed = (rule1_passes b).1 t.accepted_map.formed in
          let limited = (rule2_passes b).1 t.accepted_map.limited in
          let roomy = (rule3_passes b a).1 t.room in
          let linked = (rule45_passes b).1 (links-good t.accepted_map) in
          (formed, (limited, (roomy, (linked, ((rule7_passes b a).1 t.accepted_tables, tt))))),
    )

-- its part that leaves the area as it was
pub untouched_passes : {b a : List ℕ} → Trusted b a → decide (untouched b a) ≡ passed
unfolding opening
untouched_passes {b} {a} t = ((both_pass (untouched b a) (rule45 b ∷ rule7 b a ∷ [])).0 ((opening_passes b a).1 t)).0

steps_pass : (b list : List ℕ) → (decide (line_rules b list) ≡ passed) ↔ StepList b list
unfolding line_rules
steps_pass b list =
    Iff.trans (each_passes (line_rules b list)) (
      λ p.
          record {
            not_empty = (rule8_passes (length list)).0 p.0;
            known = (rule9_passes b list).0 p.1.0;
            once = (rule10_passes list).0 p.1.1.0;
          },
      λ s.
          ((rule8_passes (length list)).1 s.not_empty, ((rule9_passes b list).1 s.known, ((rule10_passes list).1 s.once, tt))),
    )

known_pass : (b list : List ℕ) → (decide (order_rules b list) ≡ passed) ↔ KnownSteps b list
unfolding order_rules
known_pass b list =
    Iff.trans (each_passes (order_rules b list)) (λ p. (rule9_passes b list).0 p.0, λ known. ((rule9_passes b list).1 known, tt))

pub ports_pass : (b inputs outputs : List ℕ) → (decide (port_rules b inputs outputs) ≡ passed) ↔ (KnownPorts b inputs × KnownPorts b outputs)
unfolding port_rules
ports_pass b inputs outputs =
    Iff.trans (each_passes (port_rules b inputs outputs)) (
      λ p. ((rule14_passes b inputs).0 p.0, (rule14_passes b outputs).0 p.1.0),
      λ known. ((rule14_passes b inputs).1 known.0, ((rule14_passes b outputs).1 known.1, tt)),
    )

-- ---- the checks

module _ (b a list : List ℕ) where
  pub line_passes : (decide (opening b a ++ line_rules b list) ≡ passed) ↔ (Trusted b a × StepList b list)
  line_passes = Iff.trans (both_pass (opening b a) (line_rules b list)) (Iff.and (opening_passes b a) (steps_pass b list))

  pub order_passes : (decide (opening b a ++ order_rules b list) ≡ passed) ↔ (Trusted b a × KnownSteps b list)
  order_passes = Iff.trans (both_pass (opening b a) (order_rules b list)) (Iff.and (opening_passes b a) (known_pass b list))

  module _ (inputs outputs : List ℕ) where
    pub line-ports_pass : (decide (opening b a ++ (line_rules b list ++ port_rules b inputs outputs)) ≡ passed)
        ↔ (Trusted b a × (StepList b list × (KnownPorts b inputs × KnownPorts b outputs)))
    line-ports_pass =
        Iff.trans (both_pass (opening b a) (line_rules b list ++ port_rules b inputs outputs))
        (Iff.and (opening_passes b a)
        (Iff.trans (both_pass (line_rules b list) (port_rules b inputs outputs)) (Iff.and (steps_pass b list) (ports_pass b inputs outputs))))

    pub order-ports_pass : (decide (opening b a ++ (order_rules b list ++ port_rules b inputs outputs)) ≡ passed)
        ↔ (Trusted b a × (KnownSteps b list × (KnownPorts b inputs × KnownPorts b outputs)))
    order-ports_pass =
        Iff.trans (both_pass (opening b a) (order_rules b list ++ port_rules b inputs outputs))
        (Iff.and (opening_passes b a)
        (Iff.trans (both_pass (order_rules b list) (port_rules b inputs outputs)) (Iff.and (known_pass b list) (ports_pass b inputs outputs))))
