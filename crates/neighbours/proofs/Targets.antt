-- What is read from the links of a sound map: the targets of a node's links are its output neighbours, the sources those of its incoming links.
-- Rests on Rows and neighbours.NodeLinks.
use Prim.Native.Nat.{ℕ, suc, ◌-◌, ◌≤◌, ◌<◌}
use mathlib.Core.Path.{◌≡◌, sym, ap, ◌∙◌}
use mathlib.Core.List.{List, map, map-map}
use Rattle.lists.specs.Lists.{from}
use Rattle.paper.specs.Map.{N, L, link_from, link_to, source_port, target_port, in_links, out_neighbours}
use Rattle.order_theory.specs.Sound.{Sound}
use Rattle.neighbours.proofs.NodeLinks.{out-part, in_part}
use Rattle.neighbours.specs.Linked.{out_start, out_target, in_start, in_source}
use Rattle.neighbours.proofs.Rows.{link_by, start_fits, start-rises, link-known, row}

-- ---- where the links of a node start

module _ (b : List ℕ) (v : ℕ) where
  pub out-fits : v ≤ N b → out_start b v ≤ L b
  unfolding out_start
  out-fits = start_fits b (source_port b) v

  pub in_fits : v ≤ N b → in_start b v ≤ L b
  unfolding in_start
  in_fits = start_fits b (target_port b) v

  pub out-rises : v < N b → out_start b v ≤ out_start b (suc v)
  unfolding out_start
  out-rises = start-rises b (source_port b) v

  pub in_rises : v < N b → in_start b v ≤ in_start b (suc v)
  unfolding in_start
  in_rises = start-rises b (target_port b) v

module _ {b : List ℕ} (s : Sound b) where
  -- ---- they lead to known nodes, and come from such

  pub target-known : (i : ℕ) → i < L b → out_target b i < N b
  unfolding out_target
  target-known i h = s.target (link_by b (source_port b) i) (link-known b (source_port b) i h)

  pub source_known : (i : ℕ) → i < L b → in_source b i < N b
  unfolding in_source
  source_known i h = s.source (link_by b (target_port b) i) (link-known b (target_port b) i h)

  -- ---- a node's part of them

  module _ (v : ℕ) (h : v < N b) where
    pub targets_are : map (out_target b) (from (out_start b v) (out_start b (suc v) - out_start b v)) ≡ out_neighbours b v
    unfolding out_start out_target out_neighbours
    targets_are =
        sym (map-map (link_to b) (link_by b (source_port b)) (from (out_start b v) (out_start b (suc v) - out_start b v)))
        ∙ ap (map (link_to b)) (row b (source_port b) v h ∙ out-part s v h)

    pub sources_are : map (in_source b) (from (in_start b v) (in_start b (suc v) - in_start b v)) ≡ map (link_from b) (in_links b v)
    unfolding in_start in_source
    sources_are =
        sym (map-map (link_from b) (link_by b (target_port b)) (from (in_start b v) (in_start b (suc v) - in_start b v)))
        ∙ ap (map (link_from b)) (row b (target_port b) v h ∙ in_part s v h)
