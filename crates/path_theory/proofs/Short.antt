-- On an accepted map no path back has more steps than the map: its start and its end are two, as nothing goes round.
-- Rests on path_theory's Bounds and convexity_theory's Acyclic.
use Prim.Native.Nat.{ℕ, ◌≤◌}
use native.Mathlib.Omega.{arith}
use mathlib.Core.Path.{◌≡◌, sym, subst}
use mathlib.Core.Logic.{inl, inr}
use mathlib.Core.List.{List, [], ◌∷◌}
use lib.ListN.{length}
use Rattle.lists.specs.Lists.{In}
use Rattle.paper.specs.Map.{N}
use Rattle.paper.specs.Plain.{DirectedPath}
use Rattle.paper.specs.Path.{Chain, BackPath, path, back_path}
use Rattle.paper.specs.Promise.{Trusted, KnownSteps}
use Rattle.convexity_theory.proofs.trust.Acyclic.{no_cycle}
use Rattle.path_theory.proofs.levels.Bounds.{back-path-fits}
use Rattle.path_theory.proofs.levels.Returns.{back-path}
use Rattle.path_theory.proofs.NoPath.{chain_path}

module _ {b a : List ℕ} (t : Trusted b a) (list : List ℕ) (known : KnownSteps b list) where
  start_not_end : {steps : List ℕ} (p : BackPath b list steps) → p.start ≡ p.end → ⊥
  start_not_end p e =
      no_cycle t p.start (subst (DirectedPath b p.start) (sym e) (chain_path p.between (subst (Chain b) p.whole p.linked)))

  pub path-short : {vs : List ℕ} → back_path b list ≡ path vs → length vs ≤ N b
  path-short {vs} e = go (back-path b list e)
    where
      go : BackPath b list vs → length vs ≤ N b
      go p =
          omega (arith, back-path-fits b list (p.start ∷ (p.end ∷ [])) (apart, (λ i. i, tt)) listed (λ v i. known v (listed v i)) e)
        where
          apart : In p.start (p.end ∷ []) → ⊥
          apart (inl q) = start_not_end p q
          apart (inr i) = i

          listed : (v : ℕ) → In v (p.start ∷ (p.end ∷ [])) → In v list
          listed v (inl q) = subst (λ (u : ℕ). In u list) (sym q) p.starts
          listed v (inr (inl q)) = subst (λ (u : ℕ). In u list) (sym q) p.ends
          listed v (inr (inr i)) = absurd i
