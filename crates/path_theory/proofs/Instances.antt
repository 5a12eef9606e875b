-- Against vacuity: in map A, with the tables that preparing wrote, the call shows 0 1 3 of the list 0 3. So a call that shows the other shortest path
-- keeps no promise, and none does that always or never finds one. Rests on Unique and paper's cases.
use Prim.Native.Nat.{ℕ}
use native.Mathlib.Omega.{arith}
use mathlib.Core.Path.{◌≡◌, refl}
use mathlib.Core.List.{List, [], ◌∷◌}
use lib.ListN.{replicate}
use Rattle.paper.specs.Area.{W}
use Rattle.paper.specs.Path.{steps, no_steps}
use Rattle.paper.specs.Refusals.{refused, answered}
use Rattle.paper.specs.Calls.{prepare}
use Rattle.paper.specs.Promise.{PathPromise}
use Rattle.paper.proofs.Everything.{everything}
use Rattle.paper.proofs.Recording.{map_bytes}
use Rattle.paper.proofs.Cases.{map_a}
use Rattle.paper.proofs.Plain.{bytes_a, convex_1_2, not_convex_0_1_3}
use Rattle.paper.proofs.Promise.{never_answered}
use Rattle.path_theory.proofs.levels.Only.{the_path-once}
use Rattle.path_theory.proofs.Promise.{path_answered_kept}
use Rattle.path_theory.proofs.Agree.{path-none}
use Rattle.path_theory.proofs.Unique.{path-said}

unfoldable area_a : List ℕ
area_a = (prepare bytes_a (replicate (W bytes_a) 9)).area

shows_0_1_3 : PathPromise bytes_a (0 ∷ 3 ∷ []) (9 ∷ 9 ∷ 9 ∷ []) (0 ∷ 1 ∷ 3 ∷ []) (answered (steps 3))
unfolding everything bytes_a area_a map_bytes map_a
shows_0_1_3 = path_answered_kept bytes_a area_a (0 ∷ 3 ∷ []) (9 ∷ 9 ∷ 9 ∷ []) refl

-- 0 2 3 is as short, and loses at the step before the end
not_0_2_3 : {before : List ℕ} → PathPromise bytes_a (0 ∷ 3 ∷ []) before (0 ∷ 2 ∷ 3 ∷ []) (answered (steps 3)) → ⊥
not_0_2_3 p = other (the_path-once (path-said shows_0_1_3) (path-said p))
  where
    other : ◌≡◌ {A = List ℕ} (0 ∷ 1 ∷ 3 ∷ []) (0 ∷ 2 ∷ 3 ∷ []) → ⊥
    other e = let z : ◌≡◌ {A = ℕ} 1 2 = cc in omega arith

module _ {before after : List ℕ} where
  not_always_none : PathPromise bytes_a (0 ∷ 1 ∷ 3 ∷ []) before after (answered no_steps) → ⊥
  not_always_none p = not_convex_0_1_3 ((path-none p).0 refl)

  not_always_some : {n : ℕ} → PathPromise bytes_a (1 ∷ 2 ∷ []) before after (answered (steps n)) → ⊥
  not_always_some p = some ((path-none p).1 convex_1_2)
    where
      some : {n : ℕ} → answered (steps n) ≡ answered no_steps → ⊥
      some e = let z : ◌≡◌ {A = ℕ} 0 1 = cc in omega arith

  -- a list that is fine never gets 11
  not_refused : {n p : ℕ} → PathPromise bytes_a (1 ∷ 2 ∷ []) before after (refused n p) → ⊥
  not_refused p = never_answered ((path-none p).1 convex_1_2)
