-- The order check from its steps: the marked places are the list's, and what each return says is 01's answer.
-- Rests on convexity_theory (passing is 01's order check), tables.Usable and Laying.
use Prim.Native.Nat.{ℕ, ◌+◌, ◌<◌}
use native.Mathlib.Omega.{arith}
use mathlib.Core.Path.{◌≡◌, refl, sym, ap, ◌∙◌}
use mathlib.Core.Logic.{inl, inr}
use mathlib.Core.Bool.{Bool, true, false, not, cond}
use mathlib.Core.List.{List, [], ◌∷◌}
use lib.ListN.{get_or}
use lib.Dec.{eqb, leb}
use Rattle.lists.specs.Lists.{upto, one, keep, member}
use Rattle.lists.proofs.Count.{keep-upto}
use Rattle.paper.specs.Intervals.{Reply}
use Rattle.paper.specs.OrderCheck.{places_of, order_check}
use Rattle.paper.specs.Refusals.{Ruling, passed, refusal, refuse, earliest, rule9, decide, answer, answered, refused}
use Rattle.paper.specs.Calls.{order_rules}
use Rattle.order_theory.proofs.Refusals.{sound}
use Rattle.accepted_theory.proofs.OrderCheck.{order_check-same}
use Rattle.convexity_theory.specs.places.Passed.{passing}
use Rattle.convexity_theory.specs.places.Places.{node_at}
use Rattle.convexity_theory.proofs.places.Listed.{member-place}
use Rattle.convexity_theory.proofs.places.Together.{passing-is}
use Rattle.answers.specs.Said.{topo_said}
use Rattle.tables.specs.declared.Layout.{Layout}
use Rattle.tables.specs.Answered.{Answered}
use Rattle.tables.specs.Placed.{scratch_size}
use Rattle.tables.specs.Usable.{Usable, Scratched}
use Rattle.tables.specs.Within.{Within}
use Rattle.tables.proofs.Within.{within_both, within_wider}
use Rattle.tables.proofs.Usable.{roomy, tables_still}
use Rattle.topo_checker.specs.Listing.{Unlisted, ListTaken, marked_places}
use Rattle.topo_checker.specs.Passing.{Fresh, MarkedBy, passing_over, MarkedChecked}
use Rattle.topo_checker.specs.Room.{marks_size, Laid, LaidOut}
use Rattle.topo_checker.specs.declared.layout.OrderRoom.{OrderRoom}
use Rattle.refusals.specs.Said.{ruling_of}
use Rattle.refusals.specs.declared.Refusal.{Refusal}
use Rattle.std.specs.Prelude.{Result, Ok}
use Rattle.topo_checker.proofs.Marks.{mark-some}
use Rattle.topo_checker.proofs.Laying.{node-word, marks_in_scratch, laid_still}

decide-one : (u : Ruling) → decide (u ∷ []) ≡ u
unfolding decide
decide-one passed = refl
decide-one (refusal n v) = refl

-- the check's answer as 01's
told : (t : Bool) → topo_said (Ok t) ≡ answered (cond t Reply.Yes Reply.No)
told true = refl
told false = refl

-- ---- 01's answer

module _ {b a : List ℕ} {at : Layout} {room : OrderRoom} (usable : Usable b a at) {m₁ : List ℕ} (out : LaidOut b a at room m₁) where
  pub unlisted : Unlisted m₁ at room
  unlisted = record { blank = out.unlisted }

  module _ {list : List ℕ} {r : Result (Unit {0}) Refusal} {m : List ℕ} (taken : ListTaken m₁ at room list r m) where
    within-marks : Within room.listed (marks_size room) m₁ m
    within-marks =
        within_wider taken.kept room.listed (marks_size room) (omega arith) (omega (arith, out.laid.placed))

    kept : Scratched at a m
    kept = within_both out.kept (marks_in_scratch out.laid.placed.fits within-marks)

    pub laid_now : Laid b m at room
    laid_now = laid_still out.laid within-marks

    pub fresh : Fresh m at room
    fresh = record { blank = λ j h. taken.kept.same (room.future + j) (inr (omega (arith, out.laid.placed))) ∙ out.fresh j h }

    ruled : decide (order_rules b list) ≡ ruling_of r
    unfolding order_rules rule9
    ruled =
        decide-one (rule9 b list) ∙ ap (λ (k : ℕ). refuse 9 (earliest (leb k) list)) usable.read.nodes ∙ sym taken.said

    -- a mark tells whether the node at its place is listed
    mark-is : ruling_of r ≡ passed → (j : ℕ) → j < at.sizes.nodes → get_or m (room.listed + j) 0 ≡ one (member (node_at b m j) list)
    mark-is all j h =
        taken.marked all j h
        ∙ ap (λ (v : ℕ). one (member v list))
        (sym (taken.kept.same (at.order + j) (inl (omega (arith, out.laid.placed)))) ∙ sym (node-word laid_now.usable j h))

    marked_by : ruling_of r ≡ passed → MarkedBy m at room (places_of b m list)
    unfolding marked_places places_of
    marked_by all =
        record {
          marked = λ j h. mark-is all j h ∙ ap one (sym (member-place b m list j (omega (arith, usable.read.nodes))));
          whole =
              keep-upto (λ j. not (eqb (get_or m (room.listed + j) 0) 0)) (λ j. member (node_at b m j) list) at.sizes.nodes
              (λ j h. ap (λ (w : ℕ). not (eqb w 0)) (mark-is all j h) ∙ mark-some (member (node_at b m j) list))
              ∙ ap (λ (k : ℕ). keep (λ j. member (node_at b m j) list) (upto k)) (sym usable.read.nodes);
        }

    check_is : passing_over b m (places_of b m list) ≡ order_check b a list
    unfolding passing passing_over
    check_is =
        passing-is laid_now.usable.tables (sound b usable.links) (roomy laid_now.usable) list
        ∙ sym (order_check-same (tables_still usable kept) list)

    -- an unknown node
    pub unknown_answered : {n place : ℕ} → ruling_of r ≡ refusal n place → (reply : Reply) → Answered at a m (refused n place) (order_rules b list) reply
    unfolding answer
    unknown_answered e reply = record { says = ap (λ (u : Ruling). answer u reply) (sym (ruled ∙ e)); kept = kept }

    pub order_answered : ruling_of r ≡ passed → {t : Bool} {m' : List ℕ} → MarkedChecked b m at room t m'
        → Answered at a m' (topo_said (Ok t)) (order_rules b list) (order_check b a list)
    unfolding answer
    order_answered all {t} checked =
        record {
          says =
              told t ∙ ap answered (checked.replies (places_of b m list) (marked_by all) ∙ check_is)
              ∙ ap (λ (u : Ruling). answer u (order_check b a list)) (sym (ruled ∙ all));
          kept =
              within_both kept
              (within_wider checked.kept at.scratch (scratch_size at.sizes) (omega (arith, out.laid.placed)) (omega (arith, out.laid.placed)));
        }
