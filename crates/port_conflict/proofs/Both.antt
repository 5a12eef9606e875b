-- Both lists of ports marked: 14 for the inputs, and where they are all known for the outputs.
-- Rests on Written and tables' Within.
use Prim.Native.Nat.{ℕ}
use native.Mathlib.Omega.{arith}
use mathlib.Core.Path.{◌≡◌, refl, sym, ◌∙◌}
use mathlib.Core.Logic.{inl}
use mathlib.Core.List.{List, [], ◌∷◌}
use Rattle.paper.specs.Refusals.{Ruling, passed, refusal, decide}
use Rattle.refusals.proofs.Rulings.{no_refusal}
use Rattle.tables.specs.declared.Layout.{Layout}
use Rattle.tables.specs.Placed.{scratch_size}
use Rattle.tables.specs.Usable.{Scratched}
use Rattle.tables.proofs.Within.{within_both, within_wider}
use Rattle.port_conflict.specs.declared.room.PortRoom.{PortRoom}
use Rattle.port_conflict.specs.Marks.{unknown_port, ListMarked, ListsMarked}
use Rattle.port_conflict.specs.Room.{Fits}
use Rattle.port_conflict.proofs.Written.{marked-outside}

-- ---- one rule at the head of another

refused_here : (r s : Ruling) {n place : ℕ} → refusal n place ≡ r → refusal n place ≡ decide (r ∷ s ∷ [])
unfolding decide
refused_here passed s e = absurd (no_refusal (sym e))
refused_here (refusal m p) s e = e

passed_here : (r s : Ruling) → passed ≡ r → decide (r ∷ s ∷ []) ≡ s
unfolding decide
passed_here passed passed e = refl
passed_here passed (refusal n place) e = refl
passed_here (refusal n place) s e = absurd (no_refusal e)

-- ---- the inputs, then the outputs

module _ {at : Layout} {room : PortRoom} (fits : Fits at room) {a m inputs : List ℕ} {said : Ruling}
    (marks : ListMarked a m room.inputs at.sizes.ports inputs said) (outputs : List ℕ) where
  inputs-kept : Scratched at a m
  inputs-kept = within_wider marks.kept at.scratch (scratch_size at.sizes) (omega arith) (omega arith)

  pub unknown_input : {n place : ℕ} → said ≡ refusal n place → ListsMarked at room a m inputs outputs said
  unknown_input {n} {place} e =
      record {
        says = e ∙ refused_here (unknown_port at.sizes.ports inputs) (unknown_port at.sizes.ports outputs) (sym e ∙ marks.says);
        kept = inputs-kept;
        inputs_stand = λ f. absurd (no_refusal (sym f ∙ e));
        outputs_stand = λ f. absurd (no_refusal (sym f ∙ e));
      }

  module _ (known : said ≡ passed) {o : List ℕ} {then : Ruling} (others : ListMarked m o room.outputs at.sizes.ports outputs then) where
    pub then_outputs : ListsMarked at room a o inputs outputs then
    then_outputs =
        record {
          says =
              others.says
              ∙ sym (passed_here (unknown_port at.sizes.ports inputs) (unknown_port at.sizes.ports outputs) (sym known ∙ marks.says));
          kept = within_both inputs-kept (within_wider others.kept at.scratch (scratch_size at.sizes) (omega arith) (omega arith));
          inputs_stand = λ e q h. marked-outside others.kept room.inputs q (inl (omega arith)) ∙ marks.marks_stand known q h;
          outputs_stand = others.marks_stand;
        }
