-- The neighbours of a place as the area's words give them: the targets of its node's links, and the places of those.
-- Rests on neighbours' Targets, convexity_theory's Places and Kept.
use Prim.Native.Nat.{ℕ, suc, ◌+◌, ◌-◌, ◌≤◌, ◌<◌}
use native.Mathlib.Numerals.{add-one}
use native.Mathlib.Omega.{arith}
use mathlib.Core.Path.{◌≡◌, sym, ap, ap₂, ◌∙◌}
use mathlib.Core.Bool.{Bool, ◌&&◌}
use mathlib.Core.List.{List, map}
use lib.ListN.{get_or}
use Rattle.lists.specs.Lists.{from, upto, any}
use Rattle.lists.proofs.AllAny.{any_same}
use Rattle.paper.specs.Map.{N, L, out_neighbours}
use Rattle.paper.specs.OrderCheck.{in_range, neighbour_places}
use Rattle.order_theory.specs.Sound.{Sound}
use Rattle.order_theory.proofs.Refusals.{sound}
use Rattle.neighbours.specs.Linked.{out_start, out_target}
use Rattle.neighbours.proofs.Targets.{out-fits, out-rises, target-known, targets_are}
use Rattle.convexity_theory.specs.places.Places.{node_at, place_of}
use Rattle.convexity_theory.proofs.places.Places.{place_of_node}
use Rattle.tables.specs.declared.Layout.{Layout}
use Rattle.tables.proofs.Usable.{roomy}
use Rattle.topo_checker.specs.Near.{place_reached}
use Rattle.topo_checker.specs.Room.{Laid}
use Rattle.topo_checker.specs.declared.layout.OrderRoom.{OrderRoom}
use Rattle.topo_checker.proofs.Kept.{any-keep, any-map, map-from}
use Rattle.topo_checker.proofs.Laying.{node-word, known-node}

module _ {b a : List ℕ} {at : Layout} {room : OrderRoom} (laid : Laid b a at room) where
  is-sound : Sound b
  is-sound = sound b laid.usable.links

  -- the place of a node stands behind the marks
  place_is : (v : ℕ) → v < at.sizes.nodes → place_of b a v ≡ get_or a (room.places + v) 0
  place_is v h =
      ap (place_of b a) (sym (node-word laid.usable (get_or a (room.places + v) 0) low ∙ laid.placed.holds v h))
      ∙ place_of_node laid.usable.tables (roomy laid.usable) (get_or a (room.places + v) 0)
      (known-node laid.usable (get_or a (room.places + v) 0) low)
    where
      low : get_or a (room.places + v) 0 < at.sizes.nodes
      low = laid.placed.place-known v h

  -- a link leads to a known node at a known place
  pub target-low : (x : ℕ) → x < at.sizes.links → out_target b x < at.sizes.nodes
  target-low x h =
      let known : x < L b = omega (arith, laid.usable.read.links) in
      omega (arith, target-known is-sound x known, laid.usable.read.nodes)

  pub reached-low : (x : ℕ) → x < at.sizes.links → place_reached b a room x < at.sizes.nodes
  unfolding place_reached
  reached-low x h = laid.placed.place-known (out_target b x) (target-low x h)

  -- the node at place i
  module _ {i v : ℕ} (h : i < at.sizes.nodes) (is : v ≡ get_or a (at.order + i) 0) where
    pub known : v < at.sizes.nodes
    known = omega (arith, is, laid.placed.node-known i h)

    -- its links stand from s up to e
    module _ {s e : ℕ} (starts : s ≡ out_start b v) (ends : e ≡ out_start b (v + 1)) where
      next : e ≡ out_start b (suc v)
      next = ends ∙ ap (out_start b) (add-one v)

      pub rises : s ≤ e
      rises = omega (arith, out-rises b v (known-node laid.usable v known), starts, next)

      pub links-inside : s + (e - s) ≤ at.sizes.links
      links-inside =
          let low : v + 1 ≤ N b = omega (arith, known, laid.usable.read.nodes) in
          omega (arith, rises, ends, out-fits b (v + 1) low, laid.usable.read.links)

      neighbours_are : out_neighbours b (node_at b a i) ≡ map (λ x. out_target b (s + x)) (upto (e - s))
      neighbours_are =
          ap (out_neighbours b) (node-word laid.usable i h ∙ sym is) ∙ sym (targets_are is-sound v (known-node laid.usable v known))
          ∙ ap₂ (λ (x y : ℕ). map (out_target b) (from x (y - x))) (sym starts) (sym next)
          ∙ map-from (out_target b) s (e - s)

      -- a test of the neighbours in the range, link by link
      pub near : (f : ℕ → Bool) (places : List ℕ)
          → any f (neighbour_places b a places i)
          ≡ any (λ x. in_range places (place_reached b a room (s + x)) && f (place_reached b a room (s + x))) (upto (e - s))
      unfolding neighbour_places place_reached
      near f places =
          any-keep f (in_range places) (map (place_of b a) (out_neighbours b (node_at b a i)))
          ∙ any-map test (place_of b a) (out_neighbours b (node_at b a i))
          ∙ ap (any (λ w. test (place_of b a w))) neighbours_are
          ∙ any-map (λ w. test (place_of b a w)) (λ x. out_target b (s + x)) (upto (e - s))
          ∙ any_same (λ x. test (place_of b a (out_target b (s + x)))) (λ x. test (get_or a (room.places + out_target b (s + x)) 0)) (e - s)
          (λ x g. ap test (place_is (out_target b (s + x)) (target-low (s + x) (omega (arith, links-inside)))))
        where
          test : ℕ → Bool
          test j = in_range places j && f j
