-- Intervals put together: the records of a list that was taken in stand in the room, and the two areas of the question hold the same tables.
-- Rests on FromList and LineCheck.
use Prim.Native.Nat.{ℕ}
use native.Mathlib.Omega.{arith}
use mathlib.Core.Path.{◌≡◌, refl, sym, ap, ◌∙◌, subst}
use mathlib.Core.Logic.{◌≢◌}
use mathlib.Core.List.{List, [], ◌∷◌, flat_map}
use lib.ListN.{length}
use Rattle.std.specs.Prelude.{Option, Some, None, Ok, Err}
use Rattle.paper.specs.Intervals.{intervals, touched}
use Rattle.paper.specs.Records.{words_of_records}
use Rattle.paper.specs.Refusals.{Ruling, Answer, answer, answered, decide, refuse, earliest, rule9, rule10}
use Rattle.paper.specs.Calls.{Written, wrote, said, words_of, line_rules}
use Rattle.answers.specs.Said.{written_said}
use Rattle.refusals.specs.Said.{refused_by}
use Rattle.refusals.specs.declared.Refusal.{Refusal}
use Rattle.take_in.specs.Said.{TakenIn}
use Rattle.intervals.specs.Answer.{Collected, intervals_said}
use Rattle.tables.specs.declared.Layout.{Layout}
use Rattle.tables.specs.Usable.{Usable}
use Rattle.tables.proofs.Within.{within_none}
use Rattle.line_checker.specs.InRoom.{InRoom}
use Rattle.line_checker.proofs.FromList.{list-found, list_not_found}
use Rattle.line_checker.proofs.LineCheck.{intervals-before}
use Rattle.line_checker.proofs.RecordCalls.{some_given}

-- "An empty list gives no records."
none_for_none : (b a room : List ℕ) (at : Layout) → InRoom said words_of at a a (answered (wrote 0)) (rule9 b [] ∷ rule10 [] ∷ []) (intervals b a []) room
unfolding intervals touched flat_map said words_of words_of_records rule9 rule10 earliest refuse decide answer
none_for_none b a room at = record { says = refl; kept = within_none; written = λ fine. refl }

pub none_found : (b a : List ℕ) (at : Layout) (list room : List ℕ) → length list ≡ 0
    → InRoom said words_of at a a (answered (wrote 0)) (rule9 b list ∷ rule10 list ∷ []) (intervals b a list) room
none_found b a at list room e =
    subst (λ (xs : List ℕ). InRoom said words_of at a a (answered (wrote 0)) (rule9 b xs ∷ rule10 xs ∷ []) (intervals b a xs) room)
    (sym (eq_nil list e)) (none_for_none b a room at)
  where
    eq_nil : (xs : List ℕ) → length xs ≡ 0 → xs ≡ []
    eq_nil [] e = refl
    eq_nil (x ∷ xs) e = absurd (omega (arith, e))

-- what collecting says, the call says
collected_said : (r : Option ℕ) → written_said (Ok r) ≡ answered (intervals_said r)
collected_said (Some n) = refl
collected_said None = refl

-- 8 passes, for the list is not empty
eight : (b list : List ℕ) → length list ≢ 0 → decide (line_rules b list) ≡ decide (rule9 b list ∷ rule10 list ∷ [])
unfolding line_rules decide
eight b list some = ap (λ (u : Ruling). decide (u ∷ rule9 b list ∷ rule10 list ∷ [])) (sym (some_given (length list) some))

by_two : (b : List ℕ) {a : List ℕ} {at : Layout} (list : List ℕ) → length list ≢ 0 → {m : List ℕ} {x : Answer Written} {room : List ℕ}
    → InRoom said words_of at a m x (line_rules b list) (intervals b a list) room
    → InRoom said words_of at a m x (rule9 b list ∷ rule10 list ∷ []) (intervals b a list) room
by_two b {a} list some found =
    record {
      says = found.says ∙ ap (λ (u : Ruling). answer u (said (intervals b a list))) (eight b list some);
      kept = found.kept;
      written = λ fine. found.written (fine ∙ sym (eight b list some));
    }

module _ {b a : List ℕ} {at : Layout} (usable : Usable b a at) {list : List ℕ} (some : length list ≢ 0) where
  pub not_collected : {x : Refusal} {m : List ℕ} → TakenIn at.sizes.nodes list a at.scratch (Err x) m → (room : List ℕ)
      → InRoom said words_of at a m (refused_by x) (rule9 b list ∷ rule10 list ∷ []) (intervals b a list) room
  not_collected took room = by_two b list some (list_not_found usable took (intervals b a list) room)

  pub collected : {count : ℕ} {m : List ℕ} → TakenIn at.sizes.nodes list a at.scratch (Ok count) m
      → {rs : List ℕ} {r : Option ℕ} {ws o : List ℕ} → Collected b m at count rs r ws o
      → InRoom said words_of at a o (written_said (Ok r)) (rule9 b list ∷ rule10 list ∷ []) (intervals b a list) ws
  collected took {r = r} got =
      by_two b list some (list-found usable took (intervals-before usable took) (collected_said r ∙ ap answered got.says) got.kept got.written)
