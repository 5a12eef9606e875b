-- Marks and distances that tell a list's levels tell the paper's step before and path.
-- Rests on path_theory.
use Prim.Native.Nat.{ℕ, zero, suc, ◌≤◌, ◌<◌}
use native.Mathlib.Omega.{arith}
use mathlib.Core.Path.{◌≡◌, refl, sym, ap, ◌∙◌, subst}
use mathlib.Core.Bool.{true}
use mathlib.Core.List.{List, [], ◌∷◌, ◌++◌}
use Rattle.lists.specs.Lists.{In, any, keep, member}
use Rattle.lists.proofs.Members.{member_below}
use Rattle.paper.specs.Map.{N}
use Rattle.paper.specs.Path.{leads, level_at, step_before, path_to}
use Rattle.order_theory.specs.Sound.{Sound}
use Rattle.convexity_theory.proofs.Memberships.{in_mem, in_member, member_in, in_keep, kept, some-any}
use Rattle.path_theory.proofs.levels.Levels.{Fed, linked-leads, level-next, step-before}
use Rattle.path_theory.proofs.levels.Neighbours.{leads_in}
use Rattle.path_theory.proofs.levels.Alike.{in_alike, least_alike}
use Rattle.distances.specs.declared.queue.Queue.{Queue}
use Rattle.distances.specs.Met.{tells}
use Rattle.distances.specs.Reached.{Told}
use Rattle.back_path.specs.Ways.{in_neighbours, step_told, way_told, HasWay}
use Rattle.back_path.proofs.Searching.{sources-known}

module _ {b list a : List ℕ} {queue : Queue} {top : ℕ} (s : Sound b) (nodes : N b ≡ queue.nodes) (told : Told b list a queue top) where
  -- the nodes that are linked to v, as a test
  leads-source : (u v : ℕ) → leads b u v ≡ member u (in_neighbours b v)
  unfolding in_neighbours
  leads-source u v = leads_in s u v

  source-small : (u v : ℕ) → In u (in_neighbours b v) → u < queue.nodes
  source-small u v i = omega (arith, member_below (sources-known s v) (in_mem (in_neighbours b v) i), nodes)

  source_in : (u v : ℕ) → leads b u v ≡ true → In u (in_neighbours b v)
  source_in u v e = member_in u (in_neighbours b v) (sym (leads-source u v) ∙ e)

  module _ (d : ℕ) (near : d ≤ top) (v : ℕ) where
    step-told : step_told b a queue d v ≡ step_before b list d v
    unfolding step_told step_before
    step-told = least_alike marked (keep (λ u. leads b u v) (level_at b list d)) (in_alike marked (keep (λ u. leads b u v) (level_at b list d)) to back)
      where
        marked : List ℕ
        marked = keep (λ u. tells a queue u d) (in_neighbours b v)

        to : (u : ℕ) → In u marked → In u (keep (λ u. leads b u v) (level_at b list d))
        to u i =
            let k = kept (λ w. tells a queue w d) u (in_neighbours b v) i in
            in_keep (λ w. leads b w v) u (level_at b list d) (leads-source u v ∙ in_member u (in_neighbours b v) k.1)
            (member_in u (level_at b list d) (sym (told.level d u near (source-small u v k.1)) ∙ k.0))

        back : (u : ℕ) → In u (keep (λ u. leads b u v) (level_at b list d)) → In u marked
        back u i =
            let k = kept (λ w. leads b w v) u (level_at b list d) i in
            let there = source_in u v k.0 in
            in_keep (λ w. tells a queue w d) u (in_neighbours b v)
            (told.level d u near (source-small u v there) ∙ in_member u (level_at b list d) k.1) there

    fed_told : Fed b (level_at b list d) v → any (λ u. tells a queue u d) (in_neighbours b v) ≡ true
    fed_told f =
        let there = source_in f.from v (linked-leads b f.linked) in
        some-any (λ u. tells a queue u d) (in_mem (in_neighbours b v) there)
        (told.level d f.from near (source-small f.from v there) ∙ in_member f.from (level_at b list d) f.there)

    way_on : Fed b (level_at b list d) v → HasWay b a queue d (step_before b list d v) → HasWay b a queue (suc d) v
    unfolding HasWay
    way_on f way = (fed_told f, subst (HasWay b a queue d) (sym step-told) way)

  level_way : (d : ℕ) → d ≤ top → (v : ℕ) → In v (level_at b list d) → HasWay b a queue d v
  unfolding HasWay
  level_way zero near v i = tt
  level_way (suc d) near v i =
      let f = (level-next b list d v i).fed in
      way_on d (omega arith) v f (level_way d (omega arith) (step_before b list d v) (step-before b list d v f).there)

  -- a step that a level is linked to has a way over one link more
  pub fed_way : (d : ℕ) → d ≤ top → (v : ℕ) → Fed b (level_at b list d) v → HasWay b a queue (suc d) v
  fed_way d near v f = way_on d near v f (level_way d near (step_before b list d v) (step-before b list d v f).there)

  pub way_told_lem : (d : ℕ) → d ≤ suc top → (v : ℕ) → way_told b a queue d v ≡ path_to b list d v
  unfolding way_told path_to
  way_told_lem zero near v = refl
  way_told_lem (suc d) near v =
      ap (λ (steps : List ℕ). steps ++ (v ∷ []))
      (ap (way_told b a queue d) (step-told d (omega arith) v) ∙ way_told_lem d (omega arith) (step_before b list d v))
