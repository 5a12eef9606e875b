-- The tests for a link over a node's neighbours: by output ports the nodes that it is linked to, by input ports those that are linked to it.
-- Rests on convexity_theory's Paths (output neighbours) and order_theory's Links.
use Prim.Native.Nat.{ℕ}
use native.Mathlib.Omega.{arith}
use mathlib.Core.Path.{◌≡◌, sym, subst}
use mathlib.Core.Bool.{true}
use mathlib.Core.List.{List, map, flat_map}
use Rattle.lists.specs.Lists.{In, member}
use Rattle.lists.proofs.Count.{one_eq, one_eq_back}
use Rattle.lists.proofs.Places.{times_in, times_in_back}
use Rattle.lists.proofs.Members.{member_for, member-times, member_below, MemberFor}
use Rattle.paper.specs.Map.{link_from, link_to, in_links, out_neighbours}
use Rattle.paper.specs.Plain.{Linked}
use Rattle.paper.specs.Path.{leads, fed_by}
use Rattle.order_theory.specs.Sound.{Sound}
use Rattle.order_theory.proofs.Links.{in_known, in_times}
use Rattle.accepted_theory.proofs.recorded.Among.{same_truth}
use Rattle.convexity_theory.proofs.Memberships.{in_mem, mem_in, in_member, member_in, PartWith, of_flat_map, in_flat_map}
use Rattle.convexity_theory.proofs.Paths.{neighbour_linked, linked_neighbour}
use Rattle.path_theory.proofs.levels.Levels.{leads-linked, linked-leads, Fed, fed_by_lem, feeds}

module _ {b : List ℕ} (s : Sound b) where
  -- what some steps are linked to
  pub fed_out : (some : List ℕ) (v : ℕ) → fed_by b some v ≡ member v (flat_map (out_neighbours b) some)
  fed_out some v =
      same_truth (fed_by b some v) (member v (flat_map (out_neighbours b) some)) (λ e. to (fed_by_lem b some v e))
      (λ e. feeds b some v (back (of_flat_map (out_neighbours b) v some (member_in v (flat_map (out_neighbours b) some) e))))
    where
      to : Fed b some v → member v (flat_map (out_neighbours b) some) ≡ true
      to f =
          in_member v (flat_map (out_neighbours b) some)
          (in_flat_map (out_neighbours b) v (in_mem some f.there) (linked_neighbour s f.from v f.linked))

      back : PartWith (out_neighbours b) v some → Fed b some v
      back p = record { from = p.which; there = mem_in some p.there; linked = neighbour_linked s p.which v p.has }

  -- the nodes that are linked to v stand at its inputs
  source-linked : (u v : ℕ) → In u (map (link_from b) (in_links b v)) → Linked b u v
  source-linked u v i = go (member_for (link_from b) u (in_links b v) (times_in u (map (link_from b) (in_links b v)) i))
    where
      go : MemberFor (link_from b) u (in_links b v) → Linked b u v
      go m =
          let known = member_below (in_known b v) m.there in
          let there = times_in m.which (in_links b v) (mem_in (in_links b v) m.there) in
          record {
            link = m.which;
            known = known;
            source = sym m.has;
            target = one_eq_back (link_to b m.which) v (omega (arith, in_times s v m.which known));
          }

  linked-source : (u v : ℕ) → Linked b u v → In u (map (link_from b) (in_links b v))
  linked-source u v r =
      subst (λ (w : ℕ). In w (map (link_from b) (in_links b v))) r.source
      (times_in_back (link_from b r.link) (map (link_from b) (in_links b v))
      (member-times (link_from b)
      (in_mem (in_links b v)
      (times_in_back r.link (in_links b v) (omega (arith, in_times s v r.link r.known, one_eq (link_to b r.link) v r.target))))))

  pub leads_in : (u v : ℕ) → leads b u v ≡ member u (map (link_from b) (in_links b v))
  leads_in u v =
      same_truth (leads b u v) (member u (map (link_from b) (in_links b v)))
      (λ e. in_member u (map (link_from b) (in_links b v)) (linked-source u v (leads-linked b u v e)))
      (λ e. linked-leads b (source-linked u v (member_in u (map (link_from b) (in_links b v)) e)))
