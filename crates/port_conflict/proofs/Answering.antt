-- The answer on two lists of ports: 14 from marking them, and else whether the first links meet.
-- Rests on Conflict, Passing and tables' Within.
use Prim.Native.Nat.{ℕ, ◌+◌, ◌≤◌, ◌<◌}
use native.Mathlib.Omega.{arith}
use mathlib.Core.Path.{◌≡◌, sym, ap, ◌∙◌, subst}
use mathlib.Core.Logic.{inr}
use mathlib.Core.Bool.{Bool}
use mathlib.Core.List.{List, [], ◌∷◌, map}
use lib.ListN.{length, get_or}
use lib.Seq.{sets}
use Rattle.lists.specs.Lists.{upto, any, member}
use Rattle.lists.proofs.AllAny.{any_same}
use Rattle.lists.proofs.Sections.{get_or-sets_in}
use Rattle.lists.proofs.Upto.{length-table, get_or-table}
use Rattle.paper.specs.Map.{first_port}
use Rattle.paper.specs.Calls.{port_rules}
use Rattle.paper.specs.Ports.{conflict}
use Rattle.paper.specs.Refusals.{Ruling, passed, refusal, refused, answered, answer, decide, rule14}
use Rattle.order_theory.proofs.Refusals.{sound}
use Rattle.neighbours.proofs.Writing.{source-below, target_below}
use Rattle.tables.specs.declared.Layout.{Layout}
use Rattle.tables.specs.Answered.{Answered}
use Rattle.tables.specs.Placed.{scratch_size}
use Rattle.tables.specs.Usable.{Usable, Scratched}
use Rattle.tables.specs.Within.{Within}
use Rattle.tables.proofs.Usable.{still_usable}
use Rattle.tables.proofs.Within.{within_none, within_both, within-sets, within_wider}
use Rattle.port_conflict.specs.declared.room.PortRoom.{PortRoom}
use Rattle.port_conflict.specs.FirstLinks.{meets}
use Rattle.port_conflict.specs.Marks.{marked, unknown_port, ListsMarked, Laid, LinksPassed}
use Rattle.port_conflict.specs.Room.{Fits}
use Rattle.port_conflict.proofs.Conflict.{conflict_by_links}
use Rattle.port_conflict.proofs.Passing.{meets-same}
use Rattle.port_conflict.proofs.Written.{marked-outside}

-- ---- tests that agree on all ports agree on all links

module _ {b a : List ℕ} {at : Layout} (usable : Usable b a at) (f g f' g' : ℕ → Bool) where
  links-same : ((q : ℕ) → q < at.sizes.ports → f q ≡ f' q) → ((q : ℕ) → q < at.sizes.ports → g q ≡ g' q)
      → any (meets b f g) (upto at.sizes.links) ≡ any (meets b f' g') (upto at.sizes.links)
  links-same fs gs =
      any_same (meets b f g) (meets b f' g') at.sizes.links
      (λ k h. meets-same b f g f' g' at.sizes.ports k (source-below usable.read (sound b usable.links) h)
      (target_below usable.read (sound b usable.links) h) fs gs)

-- ---- the ports are marked: the first ports are written, and the links held against the marks

-- the links held against the marks that stand
pub record LinksLooked (b a m : List ℕ) (at : Layout) (room : PortRoom) (met : Bool) : Type 0 where
  pub says : met ≡ any (meets b (marked a room.inputs) (marked a room.outputs)) (upto at.sizes.links)
  pub kept : Scratched at a m

module _ {b a : List ℕ} {at : Layout} {room : PortRoom} (usable : Usable b a at) (fits : Fits at room) where
  abbrev table : List ℕ
  table = map (first_port b) (upto (at.sizes.nodes + 1))

  many : length table ≡ at.sizes.nodes + 1
  many = length-table (first_port b) (at.sizes.nodes + 1)

  module _ {m : List ℕ} (written : m ≡ sets a room.firsts table) where
    firsts-kept : Within room.firsts (at.sizes.nodes + 1) a m
    firsts-kept =
        subst (Within room.firsts (at.sizes.nodes + 1) a) (sym written)
        (within-sets within_none room.firsts table (omega arith) (omega (arith, many)))

    scratch-kept : Scratched at a m
    scratch-kept = within_wider firsts-kept at.scratch (scratch_size at.sizes) (omega arith) (omega arith)

    pub laid : Laid b m at room
    laid =
        record {
          usable = still_usable usable scratch-kept;
          fits = fits;
          firsts = λ v h. ap (λ (x : List ℕ). get_or x (room.firsts + v) 0) written
              ∙ get_or-sets_in a room.firsts table v 0 (omega (arith, many)) (omega (arith, many, usable.placed.after-scratch, usable.room))
              ∙ get_or-table (first_port b) (at.sizes.nodes + 1) v 0 (omega arith);
        }

    marks_still : (marks : ℕ) → room.inputs ≤ marks → (q : ℕ) → marked m marks q ≡ marked a marks q
    marks_still marks behind q = marked-outside firsts-kept marks q (inr (omega arith))

    module _ {o : List ℕ} {met : Bool} (passing : LinksPassed b m o at room met) where
      pub looked : LinksLooked b a o at room met
      looked =
          record {
            says =
                passing.says
                ∙ links-same usable (marked m room.inputs) (marked m room.outputs) (marked a room.inputs) (marked a room.outputs)
                (λ q h. marks_still room.inputs (omega arith) q) (λ q h. marks_still room.outputs (omega arith) q);
            kept = within_both scratch-kept (within_wider passing.kept at.scratch (scratch_size at.sizes) (omega arith) (omega arith));
          }

-- ---- the answer

module _ {b a m inputs outputs : List ℕ} {at : Layout} {room : PortRoom} {said : Ruling} (usable : Usable b a at)
    (marks : ListsMarked at room a m inputs outputs said) where
  marks_say : said ≡ decide (port_rules b inputs outputs)
  unfolding port_rules rule14
  marks_say = marks.says ∙ ap (λ (p : ℕ). decide (unknown_port p inputs ∷ unknown_port p outputs ∷ [])) (sym usable.read.ports)

  -- an unknown port
  pub unknown_answered : {n place : ℕ} → said ≡ refusal n place → (met : Bool) → Answered at a m (refused n place) (port_rules b inputs outputs) met
  unfolding answer
  unknown_answered e met = record { says = ap (λ (r : Ruling). answer r met) (sym e ∙ marks_say); kept = marks.kept }

  -- all are known, and the links are looked at
  module _ (known : said ≡ passed) {o : List ℕ} {met : Bool} (looks : LinksLooked b m o at room met) where
    met-is : met ≡ conflict b inputs outputs
    met-is =
        looks.says
        ∙ links-same usable (marked m room.inputs) (marked m room.outputs) (λ q. member q inputs) (λ q. member q outputs)
        (marks.inputs_stand known) (marks.outputs_stand known)
        ∙ ap (λ (j : ℕ). any (meets b (λ q. member q inputs) (λ q. member q outputs)) (upto j)) (sym usable.read.links)
        ∙ sym (conflict_by_links b inputs outputs)

    pub answers : Answered at a o (answered met) (port_rules b inputs outputs) (conflict b inputs outputs)
    unfolding answer
    answers =
        record {
          says = ap answered met-is ∙ ap (λ (r : Ruling). answer r (conflict b inputs outputs)) (sym known ∙ marks_say);
          kept = within_both marks.kept looks.kept;
        }
