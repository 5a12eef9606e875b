-- Laying out the scratch: each section finds its own, and what is laid stands while the marks behind it are written.
-- Rests on neighbours.Keeping, convexity_theory.Places and tables' Usable and Within.
use Prim.Native.Nat.{ℕ, ◌+◌, ◌*◌, ◌≤◌, ◌<◌}
use native.Mathlib.Omega.{arith}
use mathlib.Core.Path.{◌≡◌, sym, ap, ap₂, ◌∙◌, subst}
use mathlib.Core.Logic.{inl}
use mathlib.Core.List.{List}
use lib.ListN.{length, get_or, take, drop, replicate, length-replicate}
use lib.Seq.{sets}
use Rattle.lists.proofs.Sections.{part, get_d_part, get_or-sets_in}
use Rattle.lists.proofs.Upto.{get_or-zeros}
use Rattle.paper.specs.Map.{N}
use Rattle.paper.specs.Area.{Section, size, section, order_of}
use Rattle.neighbours.specs.declared.Listing.{Listing}
use Rattle.neighbours.specs.Linked.{Free, OutgoingLaid, outgoing_size}
use Rattle.neighbours.proofs.Keeping.{linked-behind}
use Rattle.convexity_theory.specs.places.Places.{node_at, place_of}
use Rattle.convexity_theory.proofs.places.Places.{node-known, place_of_node, place-below, node_of_place}
use Rattle.tables.specs.declared.Layout.{Layout}
use Rattle.tables.specs.Placed.{scratch_size}
use Rattle.tables.specs.Usable.{Usable, Scratched}
use Rattle.tables.specs.Within.{Within}
use Rattle.tables.proofs.Usable.{roomy, still_usable}
use Rattle.tables.proofs.Within.{within_none, within_both, within-sets, within_wider}
use Rattle.topo_checker.specs.Room.{Fits, marks_size, Ordered, PlacesKept, PlacesStand, Laid, LaidOut}
use Rattle.topo_checker.specs.declared.layout.OrderRoom.{OrderRoom}
use Rattle.topo_checker.proofs.Taking.{placed_still}

-- ---- the places of the nodes

-- the places of the first i nodes of the order are kept
pub record KeptBelow (a : List ℕ) (at : Layout) (places i : ℕ) (m : List ℕ) : Type 0 where
  pub kept : Within places at.sizes.nodes a m
  pub placed : (j : ℕ) → j < i → get_or m (places + get_or a (at.order + j) 0) 0 ≡ j

-- ---- the order's words

module _ {b a : List ℕ} {at : Layout} (usable : Usable b a at) where
  order_is : order_of b a ≡ part a at.order at.sizes.nodes
  unfolding order_of section size
  order_is = ap₂ (λ (x y : ℕ). take x (drop y a)) usable.read.nodes (usable.placed.stands Section.order)

  pub node-word : (i : ℕ) → i < at.sizes.nodes → node_at b a i ≡ get_or a (at.order + i) 0
  node-word i h = ap (λ (xs : List ℕ). get_or xs i 0) order_is ∙ get_d_part a at.order at.sizes.nodes i 0 h

  pub known-node : (i : ℕ) → i < at.sizes.nodes → i < N b
  known-node i h = omega (arith, usable.read.nodes)

  pub before-scratch : at.order + at.sizes.nodes ≤ at.scratch
  before-scratch = omega (arith, usable.placed)

  pub scratch-inside : at.scratch + scratch_size at.sizes ≤ length a
  scratch-inside = omega (arith, usable.placed.after-scratch, usable.room)

-- ---- what is laid stands, while the marks are written

pub marks_in_scratch : {a m : List ℕ} {at : Layout} {room : OrderRoom} → Fits at room → Within room.listed (marks_size room) a m → Scratched at a m
marks_in_scratch {at = at} fits kept = within_wider kept at.scratch (scratch_size at.sizes) (omega arith) (omega arith)

pub laid_still : {b a m : List ℕ} {at : Layout} {room : OrderRoom} → Laid b a at room → Within room.listed (marks_size room) a m → Laid b m at room
laid_still laid kept =
    record {
      usable = still_usable laid.usable (marks_in_scratch laid.placed.fits kept);
      linked = linked-behind laid.linked kept laid.placed.fits.after-links;
      placed = placed_still laid.placed kept;
    }

-- ---- all of it

module _ {b a : List ℕ} {at : Layout} (usable : Usable b a at) where
  pub free : Free b a at.sizes at.scratch (outgoing_size at.sizes)
  free = record { read = usable.read; links = usable.links; room = omega (arith, scratch-inside usable) }

  module _ {links : Listing} {m₁ : List ℕ} (laid : OutgoingLaid b a at.sizes at.scratch links m₁) where
    abbrev room : OrderRoom
    room =
        record {
          links = links;
          listed = links.end;
          future = links.end + at.sizes.nodes;
          places = links.end + at.sizes.nodes + at.sizes.nodes;
        }

    pub fits : Fits at room
    fits =
        record {
          before-links = omega (arith, laid.first);
          links = omega (arith, laid.linked);
          after-links = omega arith;
          after-listed = omega arith;
          after-future = omega arith;
          after_places = omega (arith, laid.last);
        }

    links-kept : Scratched at a m₁
    links-kept = within_wider laid.kept at.scratch (scratch_size at.sizes) (omega arith) (omega arith)

    now : Usable b m₁ at
    now = still_usable usable links-kept

    pub ordered : Ordered m₁ at room.places
    ordered =
        record {
          known = λ i h.
              omega (arith, node-word now i h, node-known now.tables (roomy now) i (known-node now i h), now.read.nodes);
          apart = λ i j h g e.
              sym (place_of_node now.tables (roomy now) i (known-node now i h))
              ∙ ap (place_of b m₁) (node-word now i h ∙ e ∙ sym (node-word now j g))
              ∙ place_of_node now.tables (roomy now) j (known-node now j g);
          after = omega (arith, before-scratch now, fits);
          room = omega (arith, scratch-inside now, fits);
          small = now.read.few-nodes;
        }

    module _ {m₂ : List ℕ} (places : PlacesKept m₁ at room.places m₂) where
      node : (i : ℕ) → i < at.sizes.nodes → get_or m₂ (at.order + i) 0 ≡ get_or m₁ (at.order + i) 0
      node i h = places.kept.same (at.order + i) (inl (omega (arith, before-scratch now, fits)))

      -- where node v stands
      module _ (v : ℕ) (h : v < at.sizes.nodes) where
        low : place_of b m₁ v < at.sizes.nodes
        low = omega (arith, place-below now.tables (roomy now) v (known-node now v h), now.read.nodes)

        stands : get_or m₁ (at.order + place_of b m₁ v) 0 ≡ v
        stands = sym (node-word now (place_of b m₁ v) low) ∙ node_of_place now.tables (roomy now) v (known-node now v h)

        place : get_or m₂ (room.places + v) 0 ≡ place_of b m₁ v
        place = ap (λ (w : ℕ). get_or m₂ (room.places + w) 0) (sym stands) ∙ places.placed (place_of b m₁ v) low

      places_kept : Scratched at m₁ m₂
      places_kept = within_wider places.kept at.scratch (scratch_size at.sizes) (omega (arith, fits)) (omega (arith, fits))

      placed : PlacesStand m₂ at room
      placed =
          record {
            fits = fits;
            after-order = before-scratch now;
            inside = omega (arith, scratch-inside now, places.kept.long);
            small = now.read.few-nodes;
            node-known = λ i h. omega (arith, node i h, ordered.known i h);
            placed = λ i h. ap (λ (v : ℕ). get_or m₂ (room.places + v) 0) (node i h) ∙ places.placed i h;
            place-known = λ v h. omega (arith, place v h, low v h);
            holds = λ v h. ap (λ (i : ℕ). get_or m₂ (at.order + i) 0) (place v h) ∙ node (place_of b m₁ v) (low v h) ∙ stands v h;
          }

      pub laid_out : {m₃ : List ℕ} → m₃ ≡ sets m₂ room.listed (replicate (2 * at.sizes.nodes) 0) → LaidOut b a at room m₃
      laid_out {m₃} e =
          record {
            laid =
                laid_still
                (record {
                  usable = still_usable now places_kept;
                  linked = linked-behind laid.linked places.kept (omega arith);
                  placed = placed;
                }) filled;
            unlisted = λ j h. blank j (omega arith);
            fresh = λ j h. ap (λ (k : ℕ). get_or m₃ k 0) (assoc links.end at.sizes.nodes j) ∙ blank (at.sizes.nodes + j) (omega arith);
            kept = within_both links-kept (within_both places_kept (marks_in_scratch fits filled));
          }
        where
          many : length {A = ℕ} (replicate (2 * at.sizes.nodes) 0) ≡ 2 * at.sizes.nodes
          many = length-replicate {A = ℕ} (2 * at.sizes.nodes) 0

          filled : Within room.listed (marks_size room) m₂ m₃
          filled =
              subst (Within room.listed (marks_size room) m₂) (sym e)
              (within-sets within_none room.listed (replicate (2 * at.sizes.nodes) 0) (omega arith) (omega (arith, many)))

          blank : (j : ℕ) → j < 2 * at.sizes.nodes → get_or m₃ (room.listed + j) 0 ≡ 0
          blank j h =
              ap (λ (m : List ℕ). get_or m (room.listed + j) 0) e
              ∙ get_or-sets_in m₂ room.listed (replicate (2 * at.sizes.nodes) 0) j 0 (omega (arith, many)) (omega (arith, many, placed, fits))
              ∙ get_or-zeros (2 * at.sizes.nodes) j

          assoc : (x y z : ℕ) → x + y + z ≡ x + (y + z)
          assoc x y z = omega arith
