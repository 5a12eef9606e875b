-- The promises of demand 3 shut out a check that always says yes, one that always says no and one that refuses, whatever the tables.
-- Rests on Plain's lists of map A.
use Prim.Native.Nat.{ℕ}
use native.Mathlib.Omega.{arith}
use mathlib.Core.Path.{◌≡◌, sym, ap, ◌∙◌}
use mathlib.Core.List.{List, [], ◌∷◌}
use Rattle.paper.specs.Intervals.{Reply, Yes, No}
use Rattle.paper.specs.Refusals.{refused, answered}
use Rattle.paper.specs.Promise.{LinePromise, OrderPromise}
use Rattle.paper.proofs.Plain.{bytes_a, convex_1_2, not_convex_0_1_3}

pub no_yes : No ≡ Yes → ⊥
no_yes e = let z : ◌≡◌ {A = ℕ} 0 1 = cc in omega arith

pub never_answered : {A : Type 0} {n p : ℕ} {x : A} → refused n p ≡ answered x → ⊥
never_answered e = let z : ◌≡◌ {A = ℕ} 0 1 = cc in omega arith

pub same_answer : {A : Type 0} {x y : A} → answered x ≡ answered y → x ≡ y
same_answer e = cc

module _ {a : List ℕ} {c : ℕ} where
  line_not_always_yes : LinePromise bytes_a a (0 ∷ 1 ∷ 3 ∷ []) (answered (Yes, c)) → ⊥
  line_not_always_yes p = not_convex_0_1_3 (p.exactly.0 (ap (λ (x : Reply × ℕ). x.0) (sym (same_answer p.is))))

  line_not_always_no : LinePromise bytes_a a (1 ∷ 2 ∷ []) (answered (No, c)) → ⊥
  line_not_always_no p = no_yes (ap (λ (x : Reply × ℕ). x.0) (same_answer p.is) ∙ p.exactly.1 convex_1_2)

order_not_always_yes : OrderPromise bytes_a (0 ∷ 1 ∷ 3 ∷ []) (answered Yes) → ⊥
order_not_always_yes p = not_convex_0_1_3 (p.exactly.0 (sym (same_answer p.is)))

order_not_always_no : OrderPromise bytes_a (1 ∷ 2 ∷ []) (answered No) → ⊥
order_not_always_no p = no_yes (same_answer p.is ∙ p.exactly.1 convex_1_2)

line_not_refused : {b a list : List ℕ} {n p : ℕ} → LinePromise b a list (refused n p) → ⊥
line_not_refused q = never_answered q.is

order_not_refused : {b list : List ℕ} {n p : ℕ} → OrderPromise b list (refused n p) → ⊥
order_not_refused q = never_answered q.is
