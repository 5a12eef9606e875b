-- Nodes in records put together: 12 and 13 refuse, or they stand in the room, and the two areas of the question hold the same tables.
-- Rests on Out and accepted_theory.
use Prim.Native.Nat.{ℕ}
use mathlib.Core.Path.{◌≡◌, sym, ap, ◌∙◌, subst}
use mathlib.Core.List.{List, [], ◌∷◌}
use lib.ListN.{length, take}
use Rattle.paper.specs.Records.{nodes_in, records_in}
use Rattle.paper.specs.Refusals.{Ruling, answer, answered, rule12, rule13}
use Rattle.accepted_theory.proofs.Records.{nodes_in-same}
use Rattle.std.specs.Prelude.{Ok, Err}
use Rattle.refusals.specs.Said.{refused_by}
use Rattle.refusals.specs.declared.Refusal.{Refusal}
use Rattle.nodes_in.specs.Collected.{FoundIn}
use Rattle.records.specs.Tested.{Tested}
use Rattle.records.specs.declared.layout.LineSlots.{LineSlots}
use Rattle.tables.specs.declared.Layout.{Layout}
use Rattle.tables.specs.Usable.{Usable}
use Rattle.tables.proofs.Usable.{tables_still}
use Rattle.line_checker.specs.InRoom.{InRoom, itself}
use Rattle.line_checker.proofs.Out.{refused_in}

module _ {b a : List ℕ} {at : Layout} (usable : Usable b a at) {slots : LineSlots} {words : List ℕ} {count : ℕ} {m : List ℕ} where
  pub nodes_refused : {x : Refusal} → Tested b a at slots words count (Err x) m → (room : List ℕ)
      → InRoom length itself at a m (refused_by x) (rule12 b a words count ∷ rule13 b a (records_in words count) ∷ []) (nodes_in b a (records_in words count)) room
  nodes_refused tested room = refused_in tested.kept tested.said (nodes_in b a (records_in words count)) room

  pub nodes-found : Tested b a at slots words count (Ok tt) m → {room : List ℕ} {made : ℕ} {o : List ℕ} → FoundIn b m words count room made o
      → InRoom length itself at a m (answered made) (rule12 b a words count ∷ rule13 b a (records_in words count) ∷ []) (nodes_in b a (records_in words count)) o
  unfolding answer
  nodes-found tested {o = o} got =
      record {
        says =
            ap answered (got.number ∙ ap length same)
            ∙ ap (λ (u : Ruling). answer u (length (nodes_in b a (records_in words count)))) tested.said;
        kept = tested.kept;
        written = λ fine. subst (λ (ns : List ℕ). take (length ns) o ≡ ns) same (ap (λ (k : ℕ). take k o) (sym got.number) ∙ got.nodes);
      }
    where
      same : nodes_in b m (records_in words count) ≡ nodes_in b a (records_in words count)
      same = sym (nodes_in-same (tables_still usable tested.kept) (records_in words count))
