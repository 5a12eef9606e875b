-- Trust is kept from call to call: what a call leaves of the area is trusted as before, and every call answers there as before.
-- Rests on accepted_theory (a call reads only words in use) and Passing.
use Prim.Native.Nat.{ℕ, ◌≤◌}
use native.Mathlib.Omega.{arith}
use mathlib.Core.Path.{◌≡◌, ap}
use mathlib.Core.List.{List}
use lib.ListN.{length, replicate}
use lib.Seq.{length-sets}
use Rattle.paper.specs.Area.{Section, size, start, W, scratch_cleared}
use Rattle.paper.specs.Refusals.{Ruling, on_refusal}
use Rattle.paper.specs.Calls.{area_after}
use Rattle.paper.specs.Promise.{Trusted}
use Rattle.accepted_theory.specs.InUse.{SameInUse}
use Rattle.accepted_theory.specs.SameOutcomes.{SameOutcomes}
use Rattle.accepted_theory.proofs.InUse.{scratch-cleared, in_use}
use Rattle.accepted_theory.proofs.Calls.{same_outcomes}
use Rattle.convexity_theory.proofs.trust.Passing.{untouched_passes}

module _ {b a : List ℕ} (t : Trusted b a) where
  left : area_after b a ≡ scratch_cleared b a
  unfolding area_after on_refusal
  left = ap (λ (u : Ruling). on_refusal u a (scratch_cleared b a)) (untouched_passes t)

  pub same_in_use : SameInUse b a (area_after b a)
  same_in_use = rw left (scratch-cleared b a t.accepted_tables.few)

  room-left : W b ≤ length (area_after b a)
  unfolding scratch_cleared
  room-left =
      omega (arith, ap length left, length-sets a (start b Section.scratch) (replicate (size b Section.scratch) 0), t.room)

  pub trust_kept : Trusted b (area_after b a)
  trust_kept =
      record {
        accepted_map = t.accepted_map;
        accepted_tables = in_use same_in_use t.room room-left t.accepted_tables;
        room = room-left;
      }

  pub asked_again : SameOutcomes b a (area_after b a)
  asked_again = same_outcomes same_in_use t.room room-left
