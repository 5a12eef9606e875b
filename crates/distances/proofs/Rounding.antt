-- The loops of a round: what the links passed so far lead to has joined, and what the nodes passed so far are linked to.
-- Rests on Joining and Passing.
use Prim.Native.Nat.{ℕ, ◌+◌, ◌≤◌, ◌<◌}
use native.Mathlib.Omega.{arith}
use mathlib.Core.Path.{◌≡◌, sym, ap, ◌∙◌}
use mathlib.Core.List.{List, [], ◌∷◌, ◌++◌}
use lib.ListN.{length, get_or}
use Rattle.paper.specs.Map.{out_neighbours}
use Rattle.neighbours.specs.Linked.{out_start, out_target}
use Rattle.neighbours.proofs.Passing.{targets_to, no_targets, targets_next}
use Rattle.distances.specs.declared.Search.{Search}
use Rattle.distances.specs.declared.queue.Queue.{Queue}
use Rattle.distances.specs.Met.{Met, Joins}
use Rattle.distances.specs.Reached.{Standing, queue_of, targets_in}
use Rattle.distances.proofs.Joining.{joins-none, joins_both, joins_as, joins_rise, joins_stand}
use Rattle.distances.proofs.Passing.{standing-kept, no_nodes, nodes-next, place_inside, place-known}

-- ---- the links of a node

module _ (b : List ℕ) (v : ℕ) {a : List ℕ} {queue : Queue} {joined : ℕ} where
  pub links-start : {d i : ℕ} → i ≡ out_start b v → Met a queue joined → Joins a queue joined (targets_to b v i) d joined a
  links-start e met = joins_as (sym (ap (targets_to b v) e ∙ no_targets b v)) (joins-none met)

  pub links-next : (i : ℕ) {d grown more w : ℕ} {m o : List ℕ} → out_start b v ≤ i → Joins a queue joined (targets_to b v i) d grown m
      → w ≡ out_target b i → Joins m queue grown (w ∷ []) d more o → Joins a queue joined (targets_to b v (i + 1)) d more o
  links-next i low g e h =
      joins_as (ap (λ (x : ℕ). targets_to b v i ++ (x ∷ [])) e ∙ sym (targets_next b v i low)) (joins_both g h)

-- ---- the nodes of the queue

module _ {b a : List ℕ} {at : Search} {to d : ℕ} (st : Standing b a at) (met : Met a (queue_of at) to) (from : ℕ) where
  pub nodes-start : Joins a (queue_of at) to (targets_in b a at.start from from) d to a
  nodes-start = joins_as (sym (no_nodes b a at.start from)) (joins-none met)

  module _ {t grown : ℕ} {m : List ℕ} (low : from ≤ t) (taken : t < to) (g : Joins a (queue_of at) to (targets_in b a at.start from t) d grown m) where
    early : t < grown
    early = omega (arith, joins_rise met g)

    pub node-inside : at.start + t < length m
    node-inside = place_inside g.met early

    pub still_standing : Standing b m at
    still_standing = standing-kept st g.kept

    module _ {v : ℕ} (read : v ≡ get_or m (at.start + t) 0) where
      pub node-known : v < at.sizes.nodes
      node-known = place-known g.met early read

      pub nodes_more : {more : ℕ} {o : List ℕ} → Joins m (queue_of at) grown (out_neighbours b v) d more o
          → Joins a (queue_of at) to (targets_in b a at.start from (t + 1)) d more o
      nodes_more h =
          joins_as (sym (nodes-next b a at.start from t low (place_inside met taken) (read ∙ joins_stand met g t taken))) (joins_both g h)
