-- What refusals 9 and 10 let pass: nodes, each once, so no more than there are. And what taking in a list leaves, case by case.
-- Rests on lists' Compare and Places, and on paper's Refusals.
use Prim.Native.Nat.{ℕ, zero, suc, ◌+◌, ◌*◌, ◌≤◌, ◌<◌}
use native.Mathlib.Decide.{ℕ_discrete}
use native.Mathlib.Omega.{arith}
use mathlib.Core.Path.{◌≡◌, refl, sym, ap, ◌∙◌}
use mathlib.Core.Bool.{Bool, false, true≢false}
use mathlib.Core.List.{List, [], ◌∷◌}
use lib.Dec.{leb, eqb}
use lib.ListN.{length, get_or, take}
use lib.Seq.{take-length}
use borrow.Author.Tests.{leb-false, eq-eqb, ne_eqb}
use Rattle.lists.specs.Lists.{one, times}
use Rattle.lists.specs.Bounds.{Below}
use Rattle.lists.specs.Found.{Found, absent, placed}
use Rattle.lists.proofs.Count.{one_eq, one_ne, count-take-suc}
use Rattle.lists.proofs.First.{first_absent}
use Rattle.lists.proofs.Members.{member_yes}
use Rattle.lists.proofs.Places.{place-times}
use Rattle.paper.specs.Map.{N}
use Rattle.paper.specs.Refusals.{refuse, earliest, rule8, rule9, rule10, decide, Answer, answer, refused, answered}
use Rattle.refusals.specs.declared.Refusal.TheVariants.{Empty, Unknown, Repeated}
use Rattle.tables.specs.Within.{Within}
use Rattle.tables.proofs.Within.{within_none, within_both}
use Rattle.std.specs.Prelude.{Some, None, Ok, Err}
use Rattle.take_in.specs.Taking.{Known}
use Rattle.take_in.specs.Said.{unknown_in, repeats, repeat_in, list_ruled, EachTaken, TakenIn}

-- 9 of a map with n nodes
pub rule9-is : (b list : List ℕ) (n : ℕ) → N b ≡ n → rule9 b list ≡ unknown_in n list
unfolding rule9 unknown_in
rule9-is b list n e = ap (λ (k : ℕ). refuse 9 (earliest (leb k) list)) e

-- ---- what passes

module _ {n : ℕ} {list : List ℕ} where
  pub all_known : absent ≡ earliest (leb n) list → Known n list
  unfolding earliest
  all_known e =
      record { entry = λ i h. leb-false n (get_or list i 0) (first_absent (λ j. leb n (get_or list j 0)) (length list) (sym e) i h) }

  pub known-below : Known n list → Below n list
  known-below known k h = none (times k list) refl
    where
      none : (t : ℕ) → times k list ≡ t → times k list ≡ 0
      none zero e = e
      none (suc t) e =
          let place = place-times (length list) k list (omega (arith, ap (times k) (take-length list))) in
          absurd (omega (arith, known.entry place.place place.inside, place.holds))

new : (list : List ℕ) → absent ≡ repeat_in list → (i : ℕ) → i < length list → repeats list i ≡ false
unfolding repeat_in
new list e = first_absent (repeats list) (length list) (sym e)

-- no number stands twice among the first i entries
once-to : (list : List ℕ) → absent ≡ repeat_in list → (i : ℕ) → i ≤ length list → (x : ℕ) → times x (take i list) ≤ 1
once-to list e zero h x = omega arith
once-to list e (suc i) h x = go (ℕ_discrete x (get_or list i 0)) (once-to list e i (omega arith) x)
  where
    more : times x (take (suc i) list) ≡ times x (take i list) + one (eqb x (get_or list i 0))
    more = count-take-suc (eqb x) list i (omega arith)

    fresh : (t : ℕ) → times (get_or list i 0) (take i list) ≡ t → t ≡ 0
    fresh zero q = refl
    fresh (suc t) q =
        absurd
        (true≢false (sym (member_yes (get_or list i 0) (take i list) (omega arith)) ∙ new list e i (omega arith)))

    go : Dec (x ≡ get_or list i 0) → times x (take i list) ≤ 1 → times x (take (suc i) list) ≤ 1
    go (yes q) ih =
        omega (
          arith,
          more,
          one_eq x (get_or list i 0) q,
          fresh (times (get_or list i 0) (take i list)) refl,
          ap (λ (y : ℕ). times y (take i list)) q,
        )
    go (no ne) ih = omega (arith, more, one_ne x (get_or list i 0) ne)

pub each-once : (list : List ℕ) → absent ≡ repeat_in list → (x : ℕ) → times x list ≤ 1
each-once list e x = omega (arith, once-to list e (length list) (omega arith) x, ap (times x) (take-length list))

-- ---- what is left, case by case

-- the rules, by what each search found
ruled : (n : ℕ) (list : List ℕ) {t : Bool} {f g : Found} → eqb (length list) 0 ≡ t → f ≡ earliest (leb n) list → g ≡ repeat_in list
    → answer (decide (refuse 8 (placed t 0) ∷ refuse 9 f ∷ refuse 10 g ∷ [])) (length list) ≡ answer (list_ruled n list) (length list)
unfolding list_ruled rule8 unknown_in rule10 repeat_in
ruled n list {t} {f} {g} e h k =
    ap (λ (s : Bool). answer (decide (refuse 8 (placed s 0) ∷ refuse 9 f ∷ refuse 10 g ∷ [])) (length list)) (sym e)
    ∙ ap (λ (s : Found). answer (decide (rule8 (length list) ∷ refuse 9 s ∷ refuse 10 g ∷ [])) (length list)) h
    ∙ ap (λ (s : Found). answer (decide (rule8 (length list) ∷ unknown_in n list ∷ refuse 10 s ∷ [])) (length list)) k

not_answered : {i v c : ℕ} → ◌≡◌ {A = Answer ℕ} (refused i v) (answered c) → ⊥
not_answered e = let z : ◌≡◌ {A = ℕ} 0 1 = cc in omega arith

module _ {n : ℕ} {list a : List ℕ} {at : ℕ} where
  pub empty-list : length list ≡ 0 → TakenIn n list a at (Err Empty) a
  unfolding decide refuse answer
  empty-list e =
      record {
        said = ruled n list (eq-eqb (length list) 0 e) refl refl;
        stands = λ h. absurd (not_answered h);
        kept = within_none;
      }

  module _ (some : length list ≡ 0 → ⊥) where
    pub unknown_entry : {i : ℕ} → Found.at i ≡ earliest (leb n) list → TakenIn n list a at (Err (Unknown i)) a
    unfolding decide refuse answer
    unknown_entry e =
        record {
          said = ruled n list (ne_eqb (length list) 0 some) e refl;
          stands = λ h. absurd (not_answered h);
          kept = within_none;
        }

    module _ (known : absent ≡ earliest (leb n) list) {m o : List ℕ} (marked : Within at (2 * n) a m) where
      pub repeated_entry : {i : ℕ} → EachTaken n list m at (Some i) o → TakenIn n list a at (Err (Repeated i)) o
      unfolding decide refuse answer
      repeated_entry each =
          record {
            said = ruled n list (ne_eqb (length list) 0 some) known each.said;
            stands = λ h. absurd (not_answered h);
            kept = within_both marked each.kept;
          }

      pub all-nodes : {c : ℕ} → c ≡ length list → EachTaken n list m at None o → TakenIn n list a at (Ok c) o
      unfolding decide refuse answer
      all-nodes long each =
          record {
            said = ap answered long ∙ ruled n list (ne_eqb (length list) 0 some) known each.said;
            stands = λ h. each.stands refl;
            kept = within_both marked each.kept;
          }
