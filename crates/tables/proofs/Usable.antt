-- Writing to the scratch leaves the tables as they are: all that is read of them stays, and the area stays usable.
-- Rests on accepted_theory (the words in use alone decide).
use Prim.Native.Nat.{ℕ, ◌≤◌}
use native.Mathlib.Omega.{arith}
use mathlib.Core.Logic.{inl}
use mathlib.Core.List.{List}
use lib.ListN.{length}
use Rattle.paper.specs.Area.{Section, W}
use Rattle.accepted_theory.specs.InUse.{SameInUse}
use Rattle.accepted_theory.specs.SameTables.{SameTables}
use Rattle.accepted_theory.proofs.InUse.{same-below, in_use}
use Rattle.accepted_theory.proofs.Tables.{same_tables}
use Rattle.tables.specs.declared.Layout.{Layout}
use Rattle.tables.specs.Usable.{Usable, Scratched}

pub roomy : {b a : List ℕ} {at : Layout} → Usable b a at → W b ≤ length a
roomy usable = omega (arith, usable.placed.whole, usable.room)

module _ {b a m : List ℕ} {at : Layout} (usable : Usable b a at) (kept : Scratched at a m) where
  pub in_use_still : SameInUse b a m
  in_use_still =
      same-below b a m usable.tables.few
      (λ i h. kept.same i (inl (omega (arith, usable.placed.stands Section.scratch))))

  roomy_still : W b ≤ length m
  roomy_still = omega (arith, roomy usable, kept.long)

  pub tables_still : SameTables b a m
  tables_still = same_tables in_use_still (roomy usable) roomy_still usable.tables

  pub still_usable : Usable b m at
  still_usable =
      record {
        read = usable.read;
        placed = usable.placed;
        links = usable.links;
        room = omega (arith, usable.room, kept.long);
        tables = in_use in_use_still (roomy usable) roomy_still usable.tables;
      }
