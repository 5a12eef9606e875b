-- The judge between ways of one length to one step: of two that part, the one that is computed has the smaller step at the first difference from the end.
-- Rests on Ways.
use Prim.Native.Nat.{ℕ, zero, suc}
use native.Mathlib.Decide.{ℕ_discrete}
use native.Mathlib.Omega.{arith}
use mathlib.Core.Path.{◌≡◌, refl, sym, ap, ◌∙◌, subst}
use mathlib.Core.Logic.{◌⊎◌, inl, inr}
use mathlib.Core.List.{List, [], ◌∷◌, ◌++◌, append_assoc}
use lib.ListN.{length, length-append}
use Rattle.lists.specs.Lists.{In}
use Rattle.paper.specs.Plain.{Linked}
use Rattle.paper.specs.Path.{Precedes, level_at, step_before, path_to}
use Rattle.order_theory.specs.Sound.{Sound}
use Rattle.path_theory.proofs.levels.Levels.{level-next, Smallest, step-before}
use Rattle.path_theory.proofs.levels.Ways.{Way, begin, further, way_ends, way_some, way_met, level_exact, path_way}

-- steps against those that are computed: the same, or behind them
abbrev pub Judged : List ℕ → List ℕ → Type 0
Judged steps others = (others ≡ steps) ⊎ Precedes steps others

-- one more step at the end of both
judged_snoc : (v : ℕ) {steps others : List ℕ} → Judged steps others → Judged (steps ++ (v ∷ [])) (others ++ (v ∷ []))
judged_snoc v (inl e) = inl (ap (λ (xs : List ℕ). xs ++ (v ∷ [])) e)
judged_snoc v (inr p) =
    inr
    (record {
      lead = p.lead;
      step = p.step;
      other_lead = p.other_lead;
      other_step = p.other_step;
      shared = p.shared ++ (v ∷ []);
      whole = ap (λ (xs : List ℕ). xs ++ (v ∷ [])) p.whole ∙ append_assoc p.lead (p.step ∷ p.shared) (v ∷ []);
      other_whole = ap (λ (xs : List ℕ). xs ++ (v ∷ [])) p.other_whole ∙ append_assoc p.other_lead (p.other_step ∷ p.shared) (v ∷ []);
      smaller = p.smaller;
    })

module _ (b list : List ℕ) where
  -- a way to a step at distance d, and a link on: the step before decides, then the way to it
  pub judged_on : (d v : ℕ) {vs : List ℕ} {u : ℕ} → Way b list vs u → In u (level_at b list d) → Linked b u v → Judged (path_to b list d u) vs
      → Judged (path_to b list (suc d) v) (vs ++ (v ∷ []))
  unfolding path_to
  judged_on d v {vs} {u} w i r before = go (step-before b list d v (record { from = u; there = i; linked = r })) (ℕ_discrete (step_before b list d v) u)
    where
      go : Smallest b list d v (step_before b list d v) → Dec (step_before b list d v ≡ u) → Judged (path_to b list (suc d) v) (vs ++ (v ∷ []))
      go m (yes e) = judged_snoc v (subst (λ (x : ℕ). Judged (path_to b list d x) vs) (sym e) before)
      go m (no ne) =
          let mine = way_ends (path_way b list d (step_before b list d v) m.there) in
          let other = way_ends w in
          inr
          (record {
            lead = mine.0;
            step = step_before b list d v;
            other_lead = other.0;
            other_step = u;
            shared = v ∷ [];
            whole = ap (λ (xs : List ℕ). xs ++ (v ∷ [])) mine.1 ∙ append_assoc mine.0 (step_before b list d v ∷ []) (v ∷ []);
            other_whole = ap (λ (xs : List ℕ). xs ++ (v ∷ [])) other.1 ∙ append_assoc other.0 (u ∷ []) (v ∷ []);
            smaller = omega (arith, m.most u i r);
          })

module _ {b : List ℕ} (s : Sound b) (list : List ℕ) where
  pub judged_way : {vs : List ℕ} {v : ℕ} → Way b list vs v → (d : ℕ) → length vs ≡ suc d → In v (level_at b list d) → Judged (path_to b list d v) vs
  unfolding path_to
  judged_way (begin i) zero q j = inl refl
  judged_way (begin i) (suc d) q j = absurd (omega arith)
  judged_way (further {vs} {v = v} w r out) zero q j = absurd (omega (arith, length-append vs (v ∷ []), way_some w))
  judged_way (further {vs} {u} {v} w r out) (suc d) q j =
      let long : length vs ≡ suc d = omega (arith, length-append vs (v ∷ [])) in
      let there = level_exact s list d r (level-next b list d v j).new (way_met s list w d (omega arith)) in
      judged_on b list d v w there r (judged_way w d long there)
