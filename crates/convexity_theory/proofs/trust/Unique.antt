-- The promises say enough: a yes is told by `Convex` alone, and two answers that keep one promise have one reply and, on a yes, one count.
-- Rests on convexity_theory.Numbers (there is only one number of steps).
use Prim.Native.Nat.{ℕ}
use mathlib.Core.Path.{◌≡◌, refl, sym, ap, ◌∙◌, subst}
use mathlib.Core.Logic.{◌↔◌}
use mathlib.Core.Bool.{false}
use mathlib.Core.List.{List}
use Rattle.paper.specs.Intervals.{Reply, Yes, No}
use Rattle.paper.specs.Ports.{conflict}
use Rattle.paper.specs.Refusals.{Answer, answered}
use Rattle.paper.specs.Plain.{Convex, Ahead, Number}
use Rattle.paper.specs.Promise.{LinePromise, OrderPromise, LinePortsPromise, OrderPortsPromise}
use Rattle.paper.proofs.Promise.{no_yes, same_answer}
use Rattle.convexity_theory.proofs.Numbers.{number_unique}

-- ---- "say yes exactly when"

module _ {b a list : List ℕ} {said : Answer (Reply × ℕ)} (p : LinePromise b a list said) where
  pub line_yes : ((c : ℕ) × (said ≡ answered (Yes, c))) ↔ Convex b list
  line_yes = (
    λ y. p.exactly.0 (ap (λ (x : Reply × ℕ). x.0) (same_answer (sym p.is ∙ y.1))),
    λ c. (p.count, p.is ∙ ap (λ (r : Reply). answered (r, p.count)) (p.exactly.1 c)),
  )

module _ {b list : List ℕ} {said : Answer Reply} (p : OrderPromise b list said) where
  pub order_yes : (said ≡ answered Yes) ↔ Convex b list
  order_yes = (λ e. p.exactly.0 (same_answer (sym p.is ∙ e)), λ c. p.is ∙ ap answered (p.exactly.1 c))

-- ---- two answers that keep one promise

same-reply : (r s : Reply) {C : Type 0} → (r ≡ Yes) ↔ C → (s ≡ Yes) ↔ C → r ≡ s
same-reply Yes Yes p q = refl
same-reply Yes No p q = absurd (no_yes (q.1 (p.0 refl)))
same-reply No Yes p q = absurd (no_yes (p.1 (q.0 refl)))
same-reply No No p q = refl

-- a reply and a count, as a promise of the line check gives them
record Spoken (C : Type 0) (Is : ℕ → Type 0) (r : Reply) (c : ℕ) : Type 0 where
  exactly : (r ≡ Yes) ↔ C
  number : r ≡ Yes → Number Is c

same_spoken : {C : Type 0} {Is : ℕ → Type 0} {r s : Reply} {c d : ℕ} → Spoken C Is r c → Spoken C Is s d → (r ≡ s) × (r ≡ Yes → c ≡ d)
same_spoken {r = r} {s = s} p q =
    let same = same-reply r s p.exactly q.exactly in
    (same, λ y. number_unique (p.number y) (q.number (sym same ∙ y)))

module _ {b a list : List ℕ} where
  spoken : {r : Reply} {c : ℕ} → LinePromise b a list (answered (r, c)) → Spoken (Convex b list) (Ahead b a list) r c
  spoken {r} {c} p =
      subst (λ (x : Reply × ℕ). Spoken (Convex b list) (Ahead b a list) x.0 x.1) (sym (same_answer p.is))
      (record { exactly = p.exactly; number = p.number })

  pub promise_unique : {r s : Reply} {c d : ℕ} → LinePromise b a list (answered (r, c)) → LinePromise b a list (answered (s, d))
      → (r ≡ s) × (r ≡ Yes → c ≡ d)
  promise_unique p q = same_spoken (spoken p) (spoken q)

  module _ {inputs outputs : List ℕ} where
    spoken_ports : {r : Reply} {c : ℕ} → LinePortsPromise b a list inputs outputs (answered (r, c))
        → Spoken ((conflict b inputs outputs ≡ false) × Convex b list) (Ahead b a list) r c
    spoken_ports {r} {c} p =
        subst (λ (x : Reply × ℕ). Spoken ((conflict b inputs outputs ≡ false) × Convex b list) (Ahead b a list) x.0 x.1) (sym (same_answer p.is))
        (record { exactly = p.exactly; number = p.number })

    pub ports_promise_unique : {r s : Reply} {c d : ℕ} → LinePortsPromise b a list inputs outputs (answered (r, c))
        → LinePortsPromise b a list inputs outputs (answered (s, d)) → (r ≡ s) × (r ≡ Yes → c ≡ d)
    ports_promise_unique p q = same_spoken (spoken_ports p) (spoken_ports q)

pub order_promise_unique : {b list : List ℕ} {said told : Answer Reply} → OrderPromise b list said → OrderPromise b list told → said ≡ told
order_promise_unique p q = p.is ∙ ap answered (same-reply p.reply q.reply p.exactly q.exactly) ∙ sym q.is

pub order-ports_promise_unique : {b list inputs outputs : List ℕ} {said told : Answer Reply} → OrderPortsPromise b list inputs outputs said
    → OrderPortsPromise b list inputs outputs told → said ≡ told
order-ports_promise_unique p q = p.is ∙ ap answered (same-reply p.reply q.reply p.exactly q.exactly) ∙ sym q.is
