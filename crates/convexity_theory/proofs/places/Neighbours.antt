-- The neighbours of a place are the places in the range that a link leads to, and they stand later.
-- Rests on Places and order_theory.Links (each link stands among the outgoing links of its source).
use Prim.Native.Nat.{ℕ, ◌≤◌, ◌<◌}
use native.Mathlib.Omega.{arith}
use mathlib.Core.Path.{◌≡◌, sym, ap, ◌∙◌, subst}
use mathlib.Core.Bool.{true}
use mathlib.Core.List.Memᴰ
use mathlib.Core.List.{List, map, Memᴰ}
use lib.ListN.{length}
use Rattle.lists.proofs.Count.{one_eq, one_eq_back}
use Rattle.lists.proofs.Members.{member_below, keep-there}
use Rattle.accepted_theory.proofs.recorded.Among.{there-times, times-there, keep_at, keep_passes}
use Rattle.paper.specs.Map.{N, link_from, link_to, out_links, out_neighbours}
use Rattle.paper.specs.Area.{W}
use Rattle.paper.specs.Accepted.{Accepted}
use Rattle.paper.specs.OrderCheck.{in_range, neighbour_places}
use Rattle.paper.specs.Plain.{Linked}
use Rattle.order_theory.specs.Sound.{Sound}
use Rattle.order_theory.proofs.Links.{out-known, out-times}
use Rattle.convexity_theory.specs.places.Places.{node_at, place_of}
use Rattle.convexity_theory.proofs.places.Places.{place_of_node, node_of_place, place-below, link_later}

-- ---- nodes

module _ {b : List ℕ} (s : Sound b) {u v : ℕ} where
  neighbour_linked : Memᴰ v (out_neighbours b u) → Linked b u v
  unfolding out_neighbours
  neighbour_linked m = go (Memᴰ.of_map (link_to b) (out_links b u) m)
    where
      go : (k : ℕ) × Memᴰ k (out_links b u) × (link_to b k ≡ v) → Linked b u v
      go p =
          let known = member_below (out-known b u) p.1 in
          record {
            link = p.0;
            known = known;
            source = one_eq_back (link_from b p.0) u (omega (arith, there-times p.1, out-times s u p.0 known));
            target = p.2;
          }

  linked_neighbour : Linked b u v → Memᴰ v (out_neighbours b u)
  unfolding out_neighbours
  linked_neighbour r =
      Memᴰ.cast (sym r.target)
      (Memᴰ.map (link_to b)
      (times-there r.link (out_links b u) (omega (arith, out-times s u r.link r.known, one_eq (link_from b r.link) u r.source))))

-- ---- places

-- a place j that a link leads to from place i
pub record Next (b a places : List ℕ) (i j : ℕ) : Type 0 where
  pub known : j < N b
  pub later : i < j
  pub linked : Linked b (node_at b a i) (node_at b a j)
  pub range : in_range places j ≡ true

module _ {b a : List ℕ} (acc : Accepted b a) (s : Sound b) (room : W b ≤ length a) (places : List ℕ) {i j : ℕ} (h : i < N b) where
  pub next : Memᴰ j (neighbour_places b a places i) → Next b a places i j
  unfolding neighbour_places
  next m = go (Memᴰ.of_map (place_of b a) (out_neighbours b (node_at b a i)) (keep-there (in_range places) (map (place_of b a) (out_neighbours b (node_at b a i))) m))
    where
      at_place_lem : (v : ℕ) → Linked b (node_at b a i) v → v < N b → place_of b a v ≡ j → Next b a places i j
      at_place_lem v r l e =
          record {
            known = omega (arith, place-below acc room v l);
            later = omega (arith, link_later acc r, place_of_node acc room i h);
            linked = subst (Linked b (node_at b a i)) (sym (node_of_place acc room v l) ∙ ap (node_at b a) e) r;
            range = keep_passes (in_range places) (map (place_of b a) (out_neighbours b (node_at b a i))) m;
          }

      go : (v : ℕ) × Memᴰ v (out_neighbours b (node_at b a i)) × (place_of b a v ≡ j) → Next b a places i j
      go p =
          let r = neighbour_linked s p.1 in
          at_place_lem p.0 r (omega (arith, s.target r.link r.known, r.target)) p.2

  pub next-back : Next b a places i j → Memᴰ j (neighbour_places b a places i)
  unfolding neighbour_places
  next-back n =
      keep_at (in_range places)
      (Memᴰ.cast (sym (place_of_node acc room j n.known)) (Memᴰ.map (place_of b a) (linked_neighbour s n.linked))) n.range
