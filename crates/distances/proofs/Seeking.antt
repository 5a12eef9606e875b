-- The loops that seek the smallest listed step: over the links passed so far, and over the nodes of the queue passed so far.
-- Rests on Passing and Smallest.
use Prim.Native.Nat.{ℕ, ◌+◌, ◌≤◌, ◌<◌}
use mathlib.Core.Path.{◌≡◌, sym, ap, ◌∙◌}
use mathlib.Core.List.{List, [], ◌∷◌, ◌++◌}
use lib.ListN.{get_or}
use Rattle.lists.specs.Found.{Found, absent, listed}
use Rattle.lists.proofs.Upto.{at_the_end}
use Rattle.paper.specs.Map.{out_neighbours}
use Rattle.stepmap.specs.declared.read.Sizes.{Sizes}
use Rattle.neighbours.specs.declared.Listing.{Listing}
use Rattle.neighbours.specs.Linked.{Outgoing, out_start, out_target}
use Rattle.neighbours.proofs.Passing.{targets_to, no_targets, targets_next, all-targets}
use Rattle.distances.specs.declared.queue.Queue.{Queue}
use Rattle.distances.specs.Met.{Met, listed_of}
use Rattle.distances.specs.Reached.{targets_in}
use Rattle.distances.specs.Smallest.{smallest}
use Rattle.distances.proofs.Passing.{no_nodes, nodes-next, place_inside}
use Rattle.distances.proofs.Smallest.{listed-none, listed-on}

-- ---- the links of a node

module _ (b : List ℕ) (v : ℕ) (a : List ℕ) (queue : Queue) (found : Found) where
  pub links-none : {i : ℕ} → i ≡ out_start b v → found ≡ smallest (listed found ++ listed_of a queue (targets_to b v i))
  links-none e = listed-none a queue found (ap (targets_to b v) e ∙ no_targets b v)

  pub links_more : (i : ℕ) {w : ℕ} {next last : Found} → out_start b v ≤ i → w ≡ out_target b i
      → next ≡ smallest (listed found ++ listed_of a queue (targets_to b v i)) → last ≡ smallest (listed next ++ listed_of a queue (w ∷ []))
      → last ≡ smallest (listed found ++ listed_of a queue (targets_to b v (i + 1)))
  links_more i {w} low e g h =
      listed-on a queue found (targets_to b v i) (w ∷ []) g h
      (targets_next b v i low ∙ ap (λ (x : ℕ). targets_to b v i ++ (x ∷ [])) (sym e))

module _ {b a : List ℕ} {s : Sizes} {links : Listing} (out : Outgoing b a s links) {v : ℕ} (known : v < s.nodes) (queue : Queue) (found : Found) where
  pub links-all : {i end : ℕ} {last : Found} → end ≡ out_start b (v + 1) → i ≤ end → end ≤ i
      → last ≡ smallest (listed found ++ listed_of a queue (targets_to b v i)) → last ≡ smallest (listed found ++ listed_of a queue (out_neighbours b v))
  links-all ends low high g =
      g ∙ ap (λ (xs : List ℕ). smallest (listed found ++ listed_of a queue xs)) (all-targets out known ends low high)

-- ---- the nodes of the queue

module _ (b a : List ℕ) (queue : Queue) (from : ℕ) where
  pub nodes-none : absent ≡ smallest (listed_of a queue (targets_in b a queue.start from from))
  nodes-none = listed-none a queue absent (no_nodes b a queue.start from)

  pub nodes-all : {t to : ℕ} {last : Found} → t ≤ to → to ≤ t → last ≡ smallest (listed_of a queue (targets_in b a queue.start from t))
      → last ≡ smallest (listed_of a queue (targets_in b a queue.start from to))
  nodes-all low high g = g ∙ at_the_end (λ (k : ℕ). smallest (listed_of a queue (targets_in b a queue.start from k))) low high

pub nodes_more : (b : List ℕ) {a : List ℕ} {queue : Queue} (from : ℕ) {to t v : ℕ} {next last : Found} → Met a queue to → from ≤ t → t < to
    → v ≡ get_or a (queue.start + t) 0 → next ≡ smallest (listed_of a queue (targets_in b a queue.start from t))
    → last ≡ smallest (listed next ++ listed_of a queue (out_neighbours b v))
    → last ≡ smallest (listed_of a queue (targets_in b a queue.start from (t + 1)))
nodes_more b {a} {queue} from {t = t} {v = v} met low taken read g h =
    listed-on a queue absent (targets_in b a queue.start from t) (out_neighbours b v) g h (nodes-next b a queue.start from t low (place_inside met taken) read)
