-- The faults of a link: what the test for refusal 4 says, and refusal 5 by the ports at which links end.
-- Rests on paper's Map and Refusals, PortNumbers and order_theory.Ports.
use Prim.Native.Nat.{ℕ, ◌+◌, ◌≤◌, ◌<◌}
use native.Mathlib.Omega.{arith}
use mathlib.Core.Bool.{Bool, true, false, ◌&&◌, and-false}
use mathlib.Core.List.{List}
use mathlib.Core.Path.{◌≡◌, refl, sym, ap, ap₂, subst}
use lib.Dec.{T, eqb, ltb, leb}
use borrow.Author.Tests.{lt-ltb, le-ltb, not-false}
use Rattle.lists.specs.Lists.{upto, any}
use Rattle.paper.specs.Map.{N, ins, outs, link_from, link_out, link_to, link_in, first_port, input, target_port, missing, second}
use Rattle.lists.proofs.AllAny.{any_same}
use Rattle.lists.proofs.Tests.{Says, ◌and◌, lt_says, not_ltb}
use Rattle.order_theory.proofs.Ports.{both, input-same}
use Rattle.stepmap.proofs.PortNumbers.{first-port-next, first-rises}

-- ---- refusal 4, test by test

module _ (b : List ℕ) (k : ℕ) where
  pub from-missing : {n f : ℕ} → N b ≡ n → f ≡ link_from b k → n ≤ f → true ≡ missing b k
  unfolding missing
  from-missing e g h = rw (le-ltb (link_from b k) (N b) (omega arith))

  pub out-missing : {f o x : ℕ} → f ≡ link_from b k → o ≡ link_out b k → x ≡ outs b f → x ≤ o → true ≡ missing b k
  unfolding missing
  out-missing e g q h = rw (le-ltb (link_out b k) (outs b (link_from b k)) (omega (arith, ap (outs b) e)), and-false)

  pub to-missing : {n t : ℕ} → N b ≡ n → t ≡ link_to b k → n ≤ t → true ≡ missing b k
  unfolding missing
  to-missing e g h = rw (le-ltb (link_to b k) (N b) (omega arith), and-false)

  pub in_missing : {n f o x t i y : ℕ} → N b ≡ n → f ≡ link_from b k → o ≡ link_out b k → x ≡ outs b f → t ≡ link_to b k
      → i ≡ link_in b k → y ≡ ins b t → f < n → o < x → t < n → leb y i ≡ missing b k
  unfolding missing
  in_missing {i = i} {y = y} nodes ef eo ex et ei ey hf ho ht =
      rw (
        lt-ltb (link_from b k) (N b) (omega arith),
        lt-ltb (link_out b k) (outs b (link_from b k)) (omega (arith, ap (outs b) ef)),
        lt-ltb (link_to b k) (N b) (omega arith),
      )
      (rw (← ei, ← et, ← ey) (sym (not_ltb i y)))

-- the ends of a link that is not missing anything
pub record Ends (b : List ℕ) (k : ℕ) : Type 0 where
  pub from : link_from b k < N b
  pub outward : link_out b k < outs b (link_from b k)
  pub to : link_to b k < N b
  pub inward : link_in b k < ins b (link_to b k)

abbrev known : List ℕ → ℕ → Bool
known b k =
    ltb (link_from b k) (N b) && ltb (link_out b k) (outs b (link_from b k)) && ltb (link_to b k) (N b)
    && ltb (link_in b k) (ins b (link_to b k))

known-says : (b : List ℕ) (k : ℕ)
    → Says (known b k)
    ((((link_from b k < N b) × (link_out b k < outs b (link_from b k))) × (link_to b k < N b)) × (link_in b k < ins b (link_to b k)))
known-says b k =
    lt_says (link_from b k) (N b) and lt_says (link_out b k) (outs b (link_from b k)) and lt_says (link_to b k) (N b)
    and lt_says (link_in b k) (ins b (link_to b k))

pub ends : (b : List ℕ) (k : ℕ) → missing b k ≡ false → Ends b k
unfolding missing
ends b k h =
    let all = (known-says b k).to (subst T (sym (not-false (known b k) h)) tt) in
    record { from = all.0.0.0; outward = all.0.0.1; to = all.0.1; inward = all.1 }

-- ---- refusal 5, by ports

pub target-sum : (b : List ℕ) (k : ℕ) → target_port b k ≡ first_port b (link_to b k) + link_in b k
unfolding target_port input
target-sum b k = refl

pub target_below : (b : List ℕ) (k : ℕ) → Ends b k → target_port b k < first_port b (N b)
target_below b k e =
    let next : link_to b k + 1 ≤ N b = omega (arith, e.to) in
    omega (arith, target-sum b k, e.inward, first-port-next b (link_to b k), first-rises b (link_to b k + 1) (N b) next)

pub second_by_port : (b : List ℕ) (k : ℕ) → ((j : ℕ) → j < k → missing b j ≡ false) → missing b k ≡ false
    → second b k ≡ any (λ j. eqb (target_port b j) (target_port b k)) (upto k)
unfolding second target_port
second_by_port b k sound here =
    any_same _ _ k (λ j lt. pair j (ends b j (sound j lt)))
  where
    pair : (j : ℕ) → Ends b j
        → (eqb (link_to b j) (link_to b k) && eqb (link_in b j) (link_in b k)) ≡ eqb (target_port b j) (target_port b k)
    pair j e =
        sym
        (both {a = link_to b j} {b = link_to b k} {c = link_in b j} {d = link_in b k} {m = target_port b j} {n = target_port b k}
        (input-same b (link_to b j) (link_to b k) (link_in b j) (link_in b k) e.inward (ends b k here).inward) (λ p q. ap₂ (input b) p q))
