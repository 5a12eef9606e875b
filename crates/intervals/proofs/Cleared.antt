-- The scratch's counts set to 0: the tables and the list stand, and an empty small map stands there.
-- Rests on tables' Within and Usable.
use Prim.Native.Nat.{ℕ, ◌+◌, ◌*◌, ◌≤◌, ◌<◌}
use native.Mathlib.Omega.{arith}
use mathlib.Core.Path.{◌≡◌, refl, sym, ap, ◌∙◌, subst}
use mathlib.Core.Logic.{inl}
use mathlib.Core.List.{List, []}
use lib.ListN.{length, get_or, replicate, length-replicate, get_or-replicate}
use lib.Seq.{sets}
use Rattle.lists.specs.Lists.{Distinct}
use Rattle.lists.proofs.Sections.{get_or-sets_in, get_or-sets-out, part-sets-out}
use Rattle.accepted_theory.specs.collecting.Collected.{count_on}
use Rattle.accepted_theory.proofs.collecting.Sized.{sized-none}
use Rattle.tables.specs.Within.{Within}
use Rattle.tables.specs.declared.Layout.{Layout}
use Rattle.tables.specs.Placed.{scratch_size}
use Rattle.tables.specs.Usable.{Usable, Scratched}
use Rattle.tables.proofs.Within.{within_none, within-sets}
use Rattle.tables.proofs.Usable.{still_usable}
use Rattle.take_in.specs.Listed.{Listed, list_in}
use Rattle.intervals.specs.declared.layout.MapRoom.{MapRoom}
use Rattle.intervals.specs.Holds.{AddingNodes, MapFits}
use Rattle.intervals.proofs.Nodes.{none-counted}

module _ {b a : List ℕ} {at : Layout} {count : ℕ} (usable : Usable b a at) (listed : Listed a at count) {room : MapRoom} (fits : MapFits at room) where
  module _ {c : List ℕ} (is : c ≡ sets a room.counts (replicate room.lines 0)) where
    many-zeros : length (replicate {A = ℕ} room.lines 0) ≡ room.lines
    many-zeros = length-replicate room.lines 0

    pub cleared-kept : Scratched at a c
    cleared-kept =
        subst (Within at.scratch (scratch_size at.sizes) a) (sym is)
        (within-sets within_none room.counts (replicate room.lines 0) (omega (arith, fits)) (omega (arith, fits, many-zeros)))

    pub cleared : Usable b c at
    cleared = still_usable usable cleared-kept

    pub same-list : list_in c at count ≡ list_in a at count
    same-list =
        ap (λ (m : List ℕ). list_in m at count) is
        ∙ part-sets-out a room.counts (replicate room.lines 0) at.scratch count 0 (inl (omega (arith, fits, listed.few)))
        (omega (arith, listed.few, usable.placed.after-scratch, usable.room))

    list-word : (i : ℕ) → i < count → get_or c (at.scratch + i) 0 ≡ get_or a (at.scratch + i) 0
    list-word i h =
        ap (λ (m : List ℕ). get_or m (at.scratch + i) 0) is
        ∙ get_or-sets-out a room.counts (replicate room.lines 0) (at.scratch + i) 0 (inl (omega (arith, fits, listed.few)))

    no_count : (x : ℕ) → x < room.lines → get_or c (room.counts + x) 0 ≡ count_on [] x
    no_count x h =
        ap (λ (m : List ℕ). get_or m (room.counts + x) 0) is
        ∙ get_or-sets_in a room.counts (replicate room.lines 0) x 0 (omega (arith, many-zeros)) (omega (arith, fits, many-zeros, usable.placed.after-scratch, usable.room))
        ∙ get_or-replicate room.lines x 0 0 h
        ∙ sym (none-counted x)

    pub can_add-nodes : (rs : List ℕ) → 3 * (at.sizes.nodes + at.sizes.links) ≤ length rs → AddingNodes at room c rs count
    can_add-nodes rs roomy =
        record {
          bytes = b;
          usable = cleared;
          fits = fits;
          listed =
              record {
                few = listed.few;
                known = λ i h. omega (arith, list-word i h, listed.known i h);
                once = subst Distinct (sym same-list) listed.once;
              };
          empty =
              record {
                many = refl;
                records = λ i h. absurd (omega arith);
                slotted = λ i h. absurd (omega arith);
                counted = no_count;
                sized = sized-none room.lines;
              };
          roomy = omega (arith, fits.lines, roomy);
        }
