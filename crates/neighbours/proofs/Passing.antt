-- What a loop over the links out of a node passes: its output neighbours, one after the other.
-- Rests on Targets.
use Prim.Native.Nat.{ℕ, suc, ◌+◌, ◌-◌, ◌≤◌, ◌<◌}
use native.Mathlib.Nat.{sub_self}
use native.Mathlib.Omega.{arith}
use native.Mathlib.Numerals.{add-one}
use mathlib.Core.Path.{◌≡◌, ap, ◌∙◌}
use mathlib.Core.List.{List, [], ◌∷◌, ◌++◌, map, map-append}
use Rattle.lists.specs.Lists.{from}
use Rattle.lists.proofs.Upto.{at_the_end, from_snoc}
use Rattle.paper.specs.Map.{N, out_neighbours}
use Rattle.order_theory.specs.Sound.{Sound}
use Rattle.order_theory.proofs.Refusals.{sound}
use Rattle.stepmap.specs.declared.read.Sizes.{Sizes}
use Rattle.neighbours.specs.declared.Listing.{Listing}
use Rattle.neighbours.specs.Linked.{Outgoing, out_start, out_target}
use Rattle.neighbours.proofs.Targets.{out-fits, out-rises, target-known, targets_are}

-- the nodes that the links of node v before place i lead to
unfoldable pub targets_to : List ℕ → ℕ → ℕ → List ℕ
targets_to b v i = map (out_target b) (from (out_start b v) (i - out_start b v))

pub no_targets : (b : List ℕ) (v : ℕ) → targets_to b v (out_start b v) ≡ []
unfolding targets_to
no_targets b v = ap (λ (k : ℕ). map (out_target b) (from (out_start b v) k)) (sub_self (out_start b v))

pub targets_next : (b : List ℕ) (v i : ℕ) → out_start b v ≤ i → targets_to b v (i + 1) ≡ targets_to b v i ++ (out_target b i ∷ [])
unfolding targets_to
targets_next b v i low = go (out_start b v) low
  where
    go : (start : ℕ) → start ≤ i → map (out_target b) (from start (i + 1 - start)) ≡ map (out_target b) (from start (i - start)) ++ (out_target b i ∷ [])
    go start h =
        let more : i + 1 - start ≡ suc (i - start) = omega arith in
        let last : start + (i - start) ≡ i = omega arith in
        ap (λ (k : ℕ). map (out_target b) (from start k)) more ∙ ap (map (out_target b)) (from_snoc start (i - start))
        ∙ map-append (out_target b) (from start (i - start)) ((start + (i - start)) ∷ [])
        ∙ ap (λ (k : ℕ). map (out_target b) (from start (i - start)) ++ (out_target b k ∷ [])) last

module _ {b a : List ℕ} {s : Sizes} {at : Listing} (out : Outgoing b a s at) {v : ℕ} (known : v < s.nodes) where
  is-sound : Sound b
  is-sound = sound b out.links

  known_b : v < N b
  known_b = omega (arith, out.read.nodes)

  pub targets_rise : out_start b v ≤ out_start b (v + 1)
  targets_rise = omega (arith, out-rises b v known_b, ap (out_start b) (add-one v))

  module _ {i end : ℕ} (ends : end ≡ out_start b (v + 1)) where
    pub link-known : i < end → i < s.links
    link-known h = omega (arith, out-fits b (v + 1) (omega (arith, known_b)), out.read.links)

    pub target_below : {w : ℕ} → i < end → w ≡ out_target b i → w < s.nodes
    target_below h e = omega (arith, target-known is-sound i (omega (arith, link-known h, out.read.links)), out.read.nodes)

    -- all of them
    pub all-targets : i ≤ end → end ≤ i → targets_to b v i ≡ out_neighbours b v
    unfolding targets_to
    all-targets low high =
        at_the_end (targets_to b v) low high ∙ ap (targets_to b v) (ends ∙ ap (out_start b) (add-one v)) ∙ targets_are is-sound v known_b
