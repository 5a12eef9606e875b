-- The questions on records whose first 2,561 were read from bytes: what is said of those is said of all.
-- Rests on Enough, Reading and accepted_theory's Alike.
use Prim.Native.Nat.{ℕ, ◌/◌, ◌<◌}
use native.Mathlib.Omega.{arith}
use mathlib.Core.Path.{◌≡◌, refl, sym, ap, ◌∙◌, subst}
use mathlib.Core.Logic.{◌≢◌}
use mathlib.Core.List.{List, [], ◌∷◌}
use lib.ListN.{length, take}
use Rattle.paper.specs.Area.{K}
use Rattle.paper.specs.Intervals.{Reply, Interval}
use Rattle.paper.specs.Walk.{walk}
use Rattle.paper.specs.Records.{records_in, extend, nodes_in}
use Rattle.paper.specs.Refusals.{Ruling, passed, Answer, rule8, rule9, rule12, rule13}
use Rattle.paper.specs.Calls.{Written, said, words_of}
use Rattle.paper.specs.Words.{words_from}
use Rattle.accepted_theory.proofs.Alike.{Alike, in_the_end, next, same_answer}
use Rattle.std.specs.Prelude.{Err}
use Rattle.refusals.specs.declared.Refusal.{Refusal}
use Rattle.refusals.specs.declared.Refusal.TheVariants.{BadRecord}
use Rattle.records.specs.Tested.{Tested}
use Rattle.records.specs.declared.layout.LineSlots.{LineSlots}
use Rattle.records.proofs.Testing.{beyond}
use Rattle.tables.specs.declared.Layout.{Layout}
use Rattle.tables.specs.Answered.{Answered}
use Rattle.tables.specs.Usable.{Usable}
use Rattle.tables.proofs.Words.{count-few}
use Rattle.words.proofs.Turns.{length-words_from}
use Rattle.line_checker.specs.InRoom.{InRoom, itself}
use Rattle.line_checker.proofs.RecordCalls.{some_given}
use Rattle.byte_records.proofs.Enough.{rule12_enough, records_enough}
use Rattle.byte_records.proofs.Reading.{ReadRecords}

-- what stands in a room by rulings that are alike
room_alike : {A F R : Type 0} {told : R → A} {words : R → List ℕ} {at : Layout} {a m : List ℕ} {x : Answer A} {rs ss : List Ruling} {f g : F}
    → Alike rs ss f g → (question : F → R) {room : List ℕ} → InRoom told words at a m x rs (question f) room → InRoom told words at a m x ss (question g) room
room_alike {F = F} {told = told} {words} alike question {room} got =
    record {
      says = got.says ∙ same_answer alike (λ h. told (question h));
      kept = got.kept;
      written = λ fine.
          subst (λ (h : F). take (length (words (question h))) room ≡ words (question h)) (alike.results (alike.rulings ∙ sym fine))
          (got.written (fine ∙ sym alike.rulings));
    }

module _ {b a : List ℕ} {at : Layout} (usable : Usable b a at) {bytes : List ℕ} {count r : ℕ} {vs : List ℕ} (read : ReadRecords bytes count r vs) where
  abbrev ws : List ℕ
  ws = words_from bytes

  few : K b a < 2561
  few = omega (arith, count-few usable, usable.read.few-nodes, usable.read.few-links)

  same_12 : rule12 b a vs r ≡ rule12 b a ws count
  same_12 = ap (rule12 b a vs) read.is ∙ rule12_enough b a few count read.held read.within

  same-records : rule12 b a vs r ≡ passed → records_in vs r ≡ records_in ws count
  same-records e = ap (records_in vs) read.is ∙ records_enough b a few count read.held (sym (ap (rule12 b a vs) read.is) ∙ e)

  alike : Alike (rule12 b a vs r ∷ rule13 b a (records_in vs r) ∷ []) (rule12 b a ws count ∷ rule13 b a (records_in ws count) ∷ []) (records_in vs r) (records_in ws count)
  alike = next same_12 (λ e12. next (ap (rule13 b a) (same-records e12)) (λ e13. in_the_end (same-records e12)))

  pub check_all : count ≢ 0 → {m : List ℕ} {x : Answer (Reply × ℕ)}
      → Answered at a m x (rule8 r ∷ rule12 b a vs r ∷ rule13 b a (records_in vs r) ∷ []) (walk b a (records_in vs r))
      → Answered at a m x (rule8 count ∷ rule12 b a ws count ∷ rule13 b a (records_in ws count) ∷ []) (walk b a (records_in ws count))
  check_all some got =
      record {
        says = got.says ∙ same_answer (next (sym (some_given r some_read) ∙ some_given count some) (λ e8. alike)) (walk b a);
        kept = got.kept;
      }
    where
      some_read : r ≢ 0
      some_read e = some (omega (arith, read.is))

  pub extend-all : (v : ℕ) {m : List ℕ} {x : Answer Written} {room : List ℕ}
      → InRoom said words_of at a m x (rule9 b (v ∷ []) ∷ rule12 b a vs r ∷ rule13 b a (records_in vs r) ∷ []) (extend b a (records_in vs r) v) room
      → InRoom said words_of at a m x (rule9 b (v ∷ []) ∷ rule12 b a ws count ∷ rule13 b a (records_in ws count) ∷ []) (extend b a (records_in ws count) v) room
  extend-all v got = room_alike (next refl (λ e9. alike)) (λ (rs : List Interval). extend b a rs v) got

  pub nodes-all : {m : List ℕ} {x : Answer ℕ} {room : List ℕ}
      → InRoom length itself at a m x (rule12 b a vs r ∷ rule13 b a (records_in vs r) ∷ []) (nodes_in b a (records_in vs r)) room
      → InRoom length itself at a m x (rule12 b a ws count ∷ rule13 b a (records_in ws count) ∷ []) (nodes_in b a (records_in ws count)) room
  nodes-all got = room_alike alike (nodes_in b a) got

-- ---- records beyond the buffer: no slot is read

pub beyond-bytes : (b a : List ℕ) (at : Layout) (bytes : List ℕ) {count : ℕ} {x : Refusal}
    → (length bytes / 2 / 3 < count) × (x ≡ BadRecord (length bytes / 2 / 3))
    → Tested b a at (record { numbers = 0; marks = 0 }) (words_from bytes) count (Err x) a
beyond-bytes b a at bytes {count} h =
    subst (λ (y : Refusal). Tested b a at nowhere (words_from bytes) count (Err y) a) (ap (λ (k : ℕ). BadRecord (k / 3)) (length-words_from bytes) ∙ sym h.1)
    (beyond b a at nowhere (words_from bytes) (omega (arith, length-words_from bytes, h.0)))
  where
    nowhere : LineSlots
    nowhere = record { numbers = 0; marks = 0 }
