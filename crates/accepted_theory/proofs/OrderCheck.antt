-- The order check reads of an area its order alone.
-- Rests on the definitions.
use Prim.Native.Nat.{ℕ, zero, suc}
use mathlib.Core.Path.{◌≡◌, refl, ap, ap₂, ◌∙◌}
use mathlib.Core.Bool.{not, cond}
use mathlib.Core.List.{List, [], ◌∷◌, map}
use lib.ListN.{length, get_or}
use lib.Dec.{leb, ltb}
use Rattle.lists.specs.Lists.{upto, any, keep, member}
use Rattle.lists.specs.Found.{number}
use Rattle.paper.specs.Map.{N, out_neighbours}
use Rattle.paper.specs.Order.{place_in}
use Rattle.paper.specs.Intervals.{Yes}
use Rattle.paper.specs.OrderCheck.{
  places_of,
  in_range,
  neighbour_places,
  insert_all,
  Topo,
  going,
  fed_back,
  pass_node,
  pass_other,
  step_topo,
  topo_after,
  reply_of,
  order_check,
}
use Rattle.accepted_theory.specs.SameTables.{SameTables}

module _ {b a c : List ℕ} (t : SameTables b a c) where
  pub places_of-same : (list : List ℕ) → places_of b a list ≡ places_of b c list
  unfolding places_of
  places_of-same list = ap (λ (o : List ℕ). keep (λ i. member (get_or o i 0) list) (upto (N b))) t.order

  module _ (places : List ℕ) where
    pub neighbour_places-same : (i : ℕ) → neighbour_places b a places i ≡ neighbour_places b c places i
    unfolding neighbour_places
    neighbour_places-same i =
        ap (λ (o : List ℕ). keep (in_range places) (map (λ v. number (place_in o v)) (out_neighbours b (get_or o i 0)))) t.order

    pass_node-same : (i : ℕ) (nodes others : List ℕ) → pass_node b a places i nodes others ≡ pass_node b c places i nodes others
    unfolding pass_node
    pass_node-same i nodes others =
        ap (λ (ns : List ℕ). going nodes (insert_all (keep (λ j. not (member j places)) ns) others)) (neighbour_places-same i)

    pass_other-same : (j : ℕ) (nodes others : List ℕ) → pass_other b a places j nodes others ≡ pass_other b c places j nodes others
    unfolding pass_other
    pass_other-same j nodes others =
        ap (λ (ns : List ℕ). cond (any (λ i. member i places) ns) fed_back (going nodes (insert_all ns others))) (neighbour_places-same j)

    step_topo-same : (w : Topo) → step_topo b a places w ≡ step_topo b c places w
    unfolding step_topo
    step_topo-same fed_back = refl
    step_topo-same (going [] others) = refl
    step_topo-same (going (i ∷ nodes) []) = pass_node-same i nodes []
    step_topo-same (going (i ∷ nodes) (j ∷ others)) =
        ap₂ (cond (ltb i j)) (pass_node-same i nodes (j ∷ others)) (pass_other-same j (i ∷ nodes) others)

    pub topo_after-same : (n : ℕ) → topo_after b a places n ≡ topo_after b c places n
    unfolding topo_after
    topo_after-same zero = refl
    topo_after-same (suc n) = step_topo-same (topo_after b a places n) ∙ ap (step_topo b c places) (topo_after-same n)

  pub order_check-same : (list : List ℕ) → order_check b a list ≡ order_check b c list
  unfolding order_check
  order_check-same list =
      ap (λ (w : Topo). cond (leb (length (places_of b a list)) 1) Yes (reply_of w)) (topo_after-same (places_of b a list) (N b))
      ∙ ap (λ (places : List ℕ). cond (leb (length places) 1) Yes (reply_of (topo_after b c places (N b)))) (places_of-same list)
