-- The search for a node never ordered answers with the first.
-- Rests on lists.First.
use Prim.Native.Nat.{ℕ, ◌+◌, ◌<◌}
use mathlib.Core.Path.{◌≡◌, sym, ap, ◌∙◌}
use mathlib.Core.Bool.{not}
use mathlib.Core.List.{List}
use lib.ListN.{get_or}
use lib.Dec.{eqb}
use borrow.Author.Tests.{eq-eqb, ne_eqb}
use Rattle.lists.specs.Found.{Found, absent, at, first}
use Rattle.lists.proofs.First.{first-is, first-none}

module _ (a : List ℕ) (counts n : ℕ) where
  -- the first counter that is not 0
  abbrev pub Left : Found → Type 0
  Left answer = answer ≡ first (λ v. not (eqb (get_or a (counts + v) 0) 0)) n

  pub left_at : {v : ℕ} → v < n → ((k : ℕ) → k < v → get_or a (counts + k) 0 ≡ 0) → (get_or a (counts + v) 0 ≡ 0 → ⊥) → Left (at v)
  left_at {v} v<n zeros here =
      sym (first-is (λ u. not (eqb (get_or a (counts + u) 0) 0)) n v
      (record { known = v<n; passes = rw (ne_eqb _ _ here); fail = λ k h. rw (eq-eqb _ _ (zeros k h)) }))

  pub none_left : {v : ℕ} → n ≡ v → ((k : ℕ) → k < v → get_or a (counts + k) 0 ≡ 0) → Left absent
  none_left {v} all zeros =
      sym (ap (first (λ u. not (eqb (get_or a (counts + u) 0) 0))) all
      ∙ first-none (λ u. not (eqb (get_or a (counts + u) 0) 0)) v (λ k h. rw (eq-eqb _ _ (zeros k h))))
