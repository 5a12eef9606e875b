-- The calls on given records put together: 12 and 13 on the area that the question began with, and the question itself on the area after
-- the test, where the tables are the same.
-- Rests on Out, records' Testing and accepted_theory.
use Prim.Native.Nat.{ℕ, ◌≤◌, ◌<◌}
use native.Mathlib.Omega.{arith}
use mathlib.Core.Path.{◌≡◌, refl, sym, ap, ◌∙◌}
use mathlib.Core.Logic.{◌≢◌}
use mathlib.Core.Bool.{Bool}
use mathlib.Core.List.{List, [], ◌∷◌}
use borrow.Author.Tests.{le-leb, lt-leb, ne_eqb}
use Rattle.lists.specs.Found.{placed}
use Rattle.paper.specs.Map.{N}
use Rattle.paper.specs.Walk.{walk}
use Rattle.paper.specs.Records.{records_in}
use Rattle.paper.specs.Refusals.{Ruling, passed, refusal, refuse, answered, answer, refused, decide, earliest, rule8, rule9, rule12, rule13}
use Rattle.order_theory.proofs.Refusals.{sound}
use Rattle.accepted_theory.proofs.Refusals.{records-passed}
use Rattle.accepted_theory.proofs.Walk.{walk_same}
use Rattle.std.specs.Prelude.{Ok, Err}
use Rattle.refusals.specs.Said.{refused_by}
use Rattle.refusals.specs.declared.Refusal.{Refusal}
use Rattle.refusals.proofs.Rulings.{head_passed}
use Rattle.records.specs.Tested.{Tested}
use Rattle.tables.specs.declared.Layout.{Layout}
use Rattle.tables.specs.Usable.{Usable}
use Rattle.tables.specs.Answered.{Answered}
use Rattle.tables.proofs.Within.{within_none, within_both}
use Rattle.tables.proofs.Usable.{tables_still}
use Rattle.answers.specs.Said.{verdict_said}
use Rattle.answers.specs.declared.Verdict.{Verdict}
use Rattle.walk.specs.Walks.{Walks}
use Rattle.records.specs.declared.layout.LineSlots.{LineSlots}
use Rattle.line_checker.proofs.Out.{said-after}

-- ---- 8 of a number of records, 9 of one node

pub none_given : refusal 8 0 ≡ rule8 0
unfolding rule8 refuse
none_given = refl

pub some_given : (count : ℕ) → count ≢ 0 → passed ≡ rule8 count
unfolding rule8 refuse
some_given count ne = ap (λ (t : Bool). refuse 8 (placed t 0)) (sym (ne_eqb count 0 ne))

module _ (b : List ℕ) {n : ℕ} (nodes : N b ≡ n) (v : ℕ) where
  pub unknown_node : n ≤ v → refusal 9 0 ≡ rule9 b (v ∷ [])
  unfolding rule9 refuse earliest
  unknown_node h = ap (λ (t : Bool). refuse 9 (placed t 0)) (sym (le-leb (N b) v (omega (arith, nodes))))

  pub known-node : v < n → passed ≡ rule9 b (v ∷ [])
  unfolding rule9 refuse earliest
  known-node h = ap (λ (t : Bool). refuse 9 (placed t 0)) (sym (lt-leb (N b) v (omega (arith, nodes))))

-- ---- the check by records

module _ {A : Type 0} (at : Layout) {a : List ℕ} (rest : List Ruling) (x : A) where
  pub not_given : {count : ℕ} → count ≡ 0 → Answered at a a (refused 8 0) (rule8 count ∷ rest) x
  unfolding answer decide
  not_given {count} e =
      record {
        says = ap (λ (u : Ruling). answer (decide (u ∷ rest)) x) (none_given ∙ ap rule8 (sym e));
        kept = within_none;
      }

given : (count : ℕ) → count ≢ 0 → passed ≡ decide (rule8 count ∷ [])
unfolding decide
given count some = ap (λ (u : Ruling). decide (u ∷ [])) (some_given count some)

module _ {b a : List ℕ} {at : Layout} (usable : Usable b a at) {slots : LineSlots} {words : List ℕ} {count : ℕ} {m : List ℕ} (some : count ≢ 0) where
  pub by_records_refused : {u : Refusal} → Tested b a at slots words count (Err u) m
      → Answered at a m (refused_by u) (rule8 count ∷ rule12 b a words count ∷ rule13 b a (records_in words count) ∷ []) (walk b a (records_in words count))
  unfolding answer
  by_records_refused tested =
      record {
        says =
            said-after (rule8 count ∷ []) (given count some) (rule12 b a words count ∷ rule13 b a (records_in words count) ∷ []) (walk b a (records_in words count))
            (ap (λ (u : Ruling). answer u (walk b a (records_in words count))) tested.said);
        kept = tested.kept;
      }

  module _ (tested : Tested b a at slots words count (Ok tt) m) where
    -- the area after the test walks as the one before
    walk_still : walk b m (records_in words count) ≡ walk b a (records_in words count)
    walk_still =
        sym (
        walk_same (tables_still usable tested.kept) (sound b usable.links) (records_in words count)
        (records-passed b a words count (sym (head_passed (rule12 b a words count) (rule13 b a (records_in words count) ∷ []) tested.said).0))
        )

    pub by_records-walked : {o : List ℕ} {w : Verdict} → Walks b m words count at w o
        → Answered at a o (answered (verdict_said w)) (rule8 count ∷ rule12 b a words count ∷ rule13 b a (records_in words count) ∷ [])
        (walk b a (records_in words count))
    unfolding answer
    by_records-walked walked =
        record {
          says =
              said-after (rule8 count ∷ []) (given count some) (rule12 b a words count ∷ rule13 b a (records_in words count) ∷ []) (walk b a (records_in words count))
              (ap answered (walked.said ∙ walk_still) ∙ ap (λ (u : Ruling). answer u (walk b a (records_in words count))) tested.said);
          kept = within_both tested.kept walked.kept;
        }
