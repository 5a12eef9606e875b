-- A list that stands in the scratch, as a list of its own: as long as it is said, and of the map's nodes.
-- Rests on accepted_theory's Listing.
use Prim.Native.Nat.{ℕ}
use native.Mathlib.Omega.{arith}
use mathlib.Core.Path.{◌≡◌}
use mathlib.Core.List.{List}
use lib.ListN.{length}
use Rattle.lists.proofs.Sections.{length_part, get_d_part}
use Rattle.paper.specs.Map.{N}
use Rattle.accepted_theory.specs.collecting.Collected.{Listing}
use Rattle.accepted_theory.proofs.collecting.Laws.{below_places, in_below}
use Rattle.tables.specs.declared.Layout.{Layout}
use Rattle.tables.specs.Usable.{Usable}
use Rattle.take_in.specs.Listed.{Listed, list_in}

module _ {b a : List ℕ} {at : Layout} {count : ℕ} (usable : Usable b a at) (listed : Listed a at count) where
  pub long-list : length (list_in a at count) ≡ count
  long-list = length_part a at.scratch count (omega (arith, listed.few, usable.placed.after-scratch, usable.room))

  pub listing : Listing b (list_in a at count)
  listing =
      record {
        known =
            in_below (N b) (list_in a at count)
            (below_places (N b) (list_in a at count)
            (λ i h. omega (
              arith,
              get_d_part a at.scratch count i 0 (omega (arith, long-list)),
              listed.known i (omega (arith, long-list)),
              usable.read.nodes,
            )));
        distinct = listed.once;
      }
