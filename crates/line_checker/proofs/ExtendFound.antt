-- Extending put together: 9, 12 and 13 refuse, or the records that a node makes stand in the room, and the two areas of the question hold the
-- same tables.
-- Rests on Out and RecordCalls.
use Prim.Native.Nat.{ℕ, ◌≤◌, ◌<◌}
use native.Mathlib.Omega.{arith}
use mathlib.Core.Path.{◌≡◌, refl, sym, ap, ◌∙◌, subst}
use mathlib.Core.List.{List, [], ◌∷◌}
use lib.ListN.{length, take}
use Rattle.paper.specs.Intervals.{Records}
use Rattle.paper.specs.Records.{extend, records_in}
use Rattle.paper.specs.Refusals.{Ruling, answer, answered, refused, decide, rule9, rule12, rule13}
use Rattle.paper.specs.Calls.{said, words_of}
use Rattle.accepted_theory.proofs.Records.{extend_same}
use Rattle.std.specs.Prelude.{Option, Some, None, Ok, Err}
use Rattle.answers.specs.Said.{written_said}
use Rattle.refusals.specs.Said.{refused_by}
use Rattle.refusals.specs.declared.Refusal.{Refusal}
use Rattle.refusals.proofs.Rulings.{then_decides}
use Rattle.extension.specs.Extended.{ExtendsTo, extended_said}
use Rattle.records.specs.Tested.{Tested}
use Rattle.records.specs.declared.layout.LineSlots.{LineSlots}
use Rattle.tables.specs.declared.Layout.{Layout}
use Rattle.tables.specs.Usable.{Usable}
use Rattle.tables.proofs.Within.{within_none}
use Rattle.tables.proofs.Usable.{tables_still}
use Rattle.line_checker.specs.InRoom.{InRoom}
use Rattle.line_checker.proofs.Out.{refused_in}
use Rattle.line_checker.proofs.RecordCalls.{known-node, unknown_node}

abbrev Rules : List ℕ → List ℕ → List ℕ → ℕ → ℕ → List Ruling
Rules b a words count v = rule9 b (v ∷ []) ∷ rule12 b a words count ∷ rule13 b a (records_in words count) ∷ []

module _ {b a : List ℕ} {at : Layout} (usable : Usable b a at) (v : ℕ) (words : List ℕ) (count : ℕ) (room : List ℕ) where
  pub node_unknown : at.sizes.nodes ≤ v → InRoom said words_of at a a (refused 9 0) (Rules b a words count v) (extend b a (records_in words count) v) room
  unfolding decide
  node_unknown h =
      refused_in within_none
      (ap (λ (u : Ruling). decide (u ∷ rule12 b a words count ∷ rule13 b a (records_in words count) ∷ [])) (unknown_node b usable.read.nodes v h))
      (extend b a (records_in words count) v) room

-- what extending says, the call says
made_said : (r : Option ℕ) → written_said (Ok r) ≡ answered (extended_said r)
made_said (Some n) = refl
made_said None = refl

module _ {b a : List ℕ} {at : Layout} (usable : Usable b a at) {v : ℕ} (known : v < at.sizes.nodes) where
  -- 9 passes
  then_records : (words : List ℕ) (count : ℕ) → decide (Rules b a words count v) ≡ decide (rule12 b a words count ∷ rule13 b a (records_in words count) ∷ [])
  unfolding decide
  then_records words count =
      then_decides (rule9 b (v ∷ []) ∷ []) (rule12 b a words count ∷ rule13 b a (records_in words count) ∷ [])
      (ap (λ (u : Ruling). decide (u ∷ [])) (known-node b usable.read.nodes v known))

  pub extend_refused : {slots : LineSlots} {words : List ℕ} {count : ℕ} {x : Refusal} {m : List ℕ} → Tested b a at slots words count (Err x) m → (room : List ℕ)
      → InRoom said words_of at a m (refused_by x) (Rules b a words count v) (extend b a (records_in words count) v) room
  extend_refused {words = words} {count} tested room = refused_in tested.kept (tested.said ∙ sym (then_records words count)) (extend b a (records_in words count) v) room

  pub extend-made : {slots : LineSlots} {words : List ℕ} {count : ℕ} {m : List ℕ} → Tested b a at slots words count (Ok tt) m → {room : List ℕ} {found : Option ℕ} {ws : List ℕ} → ExtendsTo b m words count v room found ws
      → InRoom said words_of at a m (written_said (Ok found)) (Rules b a words count v) (extend b a (records_in words count) v) ws
  unfolding answer
  extend-made {words = words} {count} {m} tested {found = found} {ws} got =
      record {
        says =
            made_said found ∙ ap answered (got.says ∙ ap said same)
            ∙ ap (λ (u : Ruling). answer u (said (extend b a (records_in words count) v))) (tested.said ∙ sym (then_records words count));
        kept = tested.kept;
        written = λ fine. subst (λ (f : Records). take (length (words_of f)) ws ≡ words_of f) same got.written;
      }
    where
      same : extend b m (records_in words count) v ≡ extend b a (records_in words count) v
      same = sym (extend_same (tables_still usable tested.kept) (records_in words count) v (omega (arith, usable.read.nodes)))
