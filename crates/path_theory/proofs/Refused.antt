-- What is refused: the path refuses what the line check refuses, with its number and place, and else only by 11; and but for 8 and 10, which it
-- does not ask, so does the order check. Rests on refusals' Rulings and convexity_theory's Passing.
use Prim.Native.Nat.{ℕ}
use native.Mathlib.Omega.{arith}
use mathlib.Core.Path.{◌≡◌, refl, sym, ap, ◌∙◌}
use mathlib.Core.Logic.{◌↔◌, ◌⊎◌, inl, inr}
use mathlib.Core.List.{List, [], ◌∷◌, ◌++◌, append_assoc}
use lib.ListN.{length}
use Rattle.lists.specs.Found.{Found, absent, at}
use Rattle.paper.specs.Path.{back_path, shown_of}
use Rattle.paper.specs.Walk.{line_check}
use Rattle.paper.specs.OrderCheck.{order_check}
use Rattle.paper.specs.Refusals.{Ruling, passed, refusal, refuse, earliest, rule8, rule9, rule10, rule11, decide, refused, answer}
use Rattle.paper.specs.Calls.{opening, call, call_into, line_rules, order_rules, is_node_convex, topo_is_node_convex, show_path}
use Rattle.paper.specs.Promise.{Trusted, StepList}
use Rattle.paper.proofs.Promise.{never_answered}
use Rattle.accepted_theory.proofs.Refusals.{not_passed}
use Rattle.refusals.proofs.Rulings.{first_decides, then_decides}
use Rattle.convexity_theory.proofs.trust.Rules.{rule8_passes}
use Rattle.convexity_theory.proofs.trust.Passing.{line_passes}
use Rattle.path_theory.proofs.Promise.{asks}

-- ---- a refusal and the rule behind it

refused_by_lem : {A : Type 0} (x : A) (u : Ruling) {n p : ℕ} → (answer u x ≡ refused n p) ↔ (u ≡ refusal n p)
unfolding answer
refused_by_lem x passed = (λ e. absurd (never_answered (sym e)), λ e. absurd (not_passed (sym e)))
refused_by_lem x (refusal m q) = (λ e. cc, λ e. cc)

-- a rule refuses with its own number
by_number : (m : ℕ) (f : Found) {n p : ℕ} → decide (refuse m f ∷ []) ≡ refusal n p → n ≡ m
unfolding refuse decide
by_number m absent e = absurd (not_passed (sym e))
by_number m (at q) e = cc

-- of rules asked first and rules asked then the first refuse, or they pass and the others do
stands : (us vs : List Ruling) {n p : ℕ} → decide us ≡ refusal n p → decide (us ++ vs) ≡ refusal n p
stands us vs e = first_decides us vs (λ q. not_passed (sym e ∙ q)) ∙ e

abbrev Refuses : List Ruling → List Ruling → ℕ → ℕ → Type 0
Refuses us vs n p = (decide us ≡ refusal n p) ⊎ ((decide us ≡ passed) × (decide vs ≡ refusal n p))

either_refuses : (us vs : List Ruling) {n p : ℕ} → decide (us ++ vs) ≡ refusal n p → Refuses us vs n p
either_refuses us vs {n} {p} e = go (decide us) refl
  where
    go : (u : Ruling) → decide us ≡ u → Refuses us vs n p
    go passed q = inr (q, sym (then_decides us vs (sym q)) ∙ e)
    go (refusal m o) q = inl (q ∙ sym (stands us vs q) ∙ e)

-- ---- the path and the line check

module _ (b a list buffer : List ℕ) {n p : ℕ} where
  pub path_refuses : (is_node_convex b a list).answer ≡ refused n p → (show_path b a list buffer).answer ≡ refused n p
  unfolding show_path call_into is_node_convex call
  path_refuses e =
      let last = asks buffer (back_path b list) ∷ [] in
      (refused_by_lem (shown_of (back_path b list)) (decide (opening b a ++ (line_rules b list ++ last)))).1
      (ap decide (sym (append_assoc (opening b a) (line_rules b list) last))
      ∙ stands (opening b a ++ line_rules b list) last ((refused_by_lem (line_check b a list) (decide (opening b a ++ line_rules b list))).0 e))

  -- "Refusals: those of the line check, then 11 ..": the promise says when 11, and with what place
  pub path_refused : (show_path b a list buffer).answer ≡ refused n p
      → ((is_node_convex b a list).answer ≡ refused n p) ⊎ ((n ≡ 11) × (Trusted b a × StepList b list))
  unfolding show_path call_into is_node_convex call rule11
  path_refused e =
      go
      (either_refuses (opening b a ++ line_rules b list) last
      (ap decide (append_assoc (opening b a) (line_rules b list) last)
      ∙ (refused_by_lem (shown_of (back_path b list)) (decide (opening b a ++ (line_rules b list ++ last)))).0 e))
    where
      last : List Ruling
      last = asks buffer (back_path b list) ∷ []

      go : Refuses (opening b a ++ line_rules b list) last n p
          → (answer (decide (opening b a ++ line_rules b list)) (line_check b a list) ≡ refused n p) ⊎ ((n ≡ 11) × (Trusted b a × StepList b list))
      go (inl r) = inl ((refused_by_lem (line_check b a list) (decide (opening b a ++ line_rules b list))).1 r)
      go (inr r) = inr (by_number 11 _ r.1, (line_passes b a list).0 r.0)

-- ---- the order check and the line check

-- an unknown step is one, so 8 has passed
unknown_refused : (b list : List ℕ) {n p : ℕ} → decide (order_rules b list) ≡ refusal n p → decide (line_rules b list) ≡ refusal n p
unfolding order_rules line_rules rule9 earliest refuse decide
unknown_refused b [] e = absurd (not_passed (sym e))
unknown_refused b (v ∷ list) e =
    ap (λ (u : Ruling). decide (u ∷ rule9 b (v ∷ list) ∷ rule10 (v ∷ list) ∷ [])) ((rule8_passes (length (v ∷ list))).1 (omega arith))
    ∙ stands (rule9 b (v ∷ list) ∷ []) (rule10 (v ∷ list) ∷ []) e

-- the line check's numbers besides
line_refused : (b list : List ℕ) {n p : ℕ} → decide (line_rules b list) ≡ refusal n p → (decide (order_rules b list) ≡ refusal n p) ⊎ ((n ≡ 8) ⊎ (n ≡ 10))
unfolding order_rules line_rules rule8 rule10
line_refused b list {n} {p} e = first (either_refuses (rule8 (length list) ∷ []) (rule9 b list ∷ rule10 list ∷ []) e)
  where
    then : Refuses (rule9 b list ∷ []) (rule10 list ∷ []) n p → (decide (rule9 b list ∷ []) ≡ refusal n p) ⊎ ((n ≡ 8) ⊎ (n ≡ 10))
    then (inl r) = inl r
    then (inr r) = inr (inr (by_number 10 _ r.1))

    first : Refuses (rule8 (length list) ∷ []) (rule9 b list ∷ rule10 list ∷ []) n p → (decide (rule9 b list ∷ []) ≡ refusal n p) ⊎ ((n ≡ 8) ⊎ (n ≡ 10))
    first (inl r) = inr (inl (by_number 8 _ r))
    first (inr r) = then (either_refuses (rule9 b list ∷ []) (rule10 list ∷ []) r.1)

module _ (b a list : List ℕ) {n p : ℕ} where
  pub order_refuses : (topo_is_node_convex b a list).answer ≡ refused n p → (is_node_convex b a list).answer ≡ refused n p
  unfolding topo_is_node_convex is_node_convex call
  order_refuses e =
      (refused_by_lem (line_check b a list) (decide (opening b a ++ line_rules b list))).1
      (go (either_refuses (opening b a) (order_rules b list) ((refused_by_lem (order_check b a list) (decide (opening b a ++ order_rules b list))).0 e)))
    where
      go : Refuses (opening b a) (order_rules b list) n p → decide (opening b a ++ line_rules b list) ≡ refusal n p
      go (inl r) = stands (opening b a) (line_rules b list) r
      go (inr r) = then_decides (opening b a) (line_rules b list) (sym r.0) ∙ unknown_refused b list r.1

  -- the order check has no 8 and no 10
  pub order_refused : (is_node_convex b a list).answer ≡ refused n p → ((topo_is_node_convex b a list).answer ≡ refused n p) ⊎ ((n ≡ 8) ⊎ (n ≡ 10))
  unfolding topo_is_node_convex is_node_convex call
  order_refused e =
      go (either_refuses (opening b a) (line_rules b list) ((refused_by_lem (line_check b a list) (decide (opening b a ++ line_rules b list))).0 e))
    where
      refuses : decide (opening b a ++ order_rules b list) ≡ refusal n p → answer (decide (opening b a ++ order_rules b list)) (order_check b a list) ≡ refused n p
      refuses r = (refused_by_lem (order_check b a list) (decide (opening b a ++ order_rules b list))).1 r

      past : decide (opening b a) ≡ passed → (decide (order_rules b list) ≡ refusal n p) ⊎ ((n ≡ 8) ⊎ (n ≡ 10))
          → (answer (decide (opening b a ++ order_rules b list)) (order_check b a list) ≡ refused n p) ⊎ ((n ≡ 8) ⊎ (n ≡ 10))
      past q (inl r) = inl (refuses (then_decides (opening b a) (order_rules b list) (sym q) ∙ r))
      past q (inr numbered) = inr numbered

      go : Refuses (opening b a) (line_rules b list) n p → (answer (decide (opening b a ++ order_rules b list)) (order_check b a list) ≡ refused n p) ⊎ ((n ≡ 8) ⊎ (n ≡ 10))
      go (inl r) = inl (refuses (stands (opening b a) (order_rules b list) r))
      go (inr r) = past r.0 (line_refused b list r.1)
