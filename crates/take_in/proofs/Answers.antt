-- What a list that was taken in tells a caller: 8, 9 and 10 passed, and its nodes stand in the area. Rests on Passing.
use Prim.Native.Nat.{ℕ, ◌≤◌, ◌<◌}
use native.Mathlib.Omega.{arith}
use mathlib.Core.Path.{◌≡◌, refl, sym, ap, ◌∙◌}
use mathlib.Core.Bool.{Bool, true, false}
use mathlib.Core.List.{List, [], ◌∷◌}
use lib.Dec.{leb, eqb}
use lib.ListN.{length}
use borrow.Author.Tests.{eqb-false}
use Rattle.lists.specs.Lists.{Distinct}
use Rattle.lists.specs.Found.{Found, absent, at, placed}
use Rattle.lists.proofs.Compare.{fits}
use Rattle.lists.proofs.Places.{distinct-times}
use Rattle.lists.proofs.Sections.{part}
use Rattle.paper.specs.Refusals.{passed, refuse, earliest, rule8, rule10, decide, Answer, answer, refused, answered}
use Rattle.refusals.specs.declared.Refusal.{Refusal}
use Rattle.std.specs.Prelude.{Result, Ok}
use Rattle.refusals.specs.Said.{answer_of}
use Rattle.refusals.specs.declared.Refusal.{Refusal}
use Rattle.take_in.specs.Taking.{Known}
use Rattle.take_in.specs.Said.{unknown_in, repeat_in, list_ruled, TakenIn}
use Rattle.take_in.proofs.Passing.{all_known, known-below, each-once}

-- ---- what the three rules found

-- a refusal's number, and 0 for an answer
numbered : Answer ℕ → ℕ
numbered (refused i v) = i
numbered (answered c) = 0

-- whether the list is empty, the first unknown node and the first repeat, and the answer in this order
ruled_by : Bool → Found → Found → ℕ → Answer ℕ
ruled_by t f g x = answer (decide (refuse 8 (placed t 0) ∷ refuse 9 f ∷ refuse 10 g ∷ [])) x

module _ (x : ℕ) where
  nodes-told : {c : ℕ} (t : Bool) (f g : Found) → answered c ≡ ruled_by t f g x → (t ≡ false) × (f ≡ absent) × (g ≡ absent) × (c ≡ x)
  unfolding numbered ruled_by answer decide refuse
  nodes-told true f g e = absurd (omega (arith, ap numbered e))
  nodes-told false (at j) g e = absurd (omega (arith, ap numbered e))
  nodes-told false absent (at j) e = absurd (omega (arith, ap numbered e))
  nodes-told false absent absent e = (refl, refl, refl, cc)

-- ---- what a caller has of the nodes

-- c nodes, each once, which stand in m from `at` on; and 8, 9 and 10 pass
pub record AllNodes (n : ℕ) (list : List ℕ) (at c : ℕ) (m : List ℕ) : Type 0 where
  pub count : c ≡ length list
  pub some : 0 < c
  pub few : c ≤ n
  pub known : Known n list
  pub once : Distinct list
  pub stands : part m at c ≡ list
  pub not_empty_lem : rule8 (length list) ≡ passed
  pub none_unknown : unknown_in n list ≡ passed
  pub none_repeated : rule10 list ≡ passed

-- each rule that found nothing passes
module _ (list : List ℕ) where
  some_pass : eqb (length list) 0 ≡ false → rule8 (length list) ≡ passed
  unfolding rule8 refuse
  some_pass e = ap (λ (t : Bool). refuse 8 (placed t 0)) e

  known_pass : (n : ℕ) → earliest (leb n) list ≡ absent → unknown_in n list ≡ passed
  unfolding unknown_in refuse
  known_pass n e = ap (refuse 9) e

  once_pass : repeat_in list ≡ absent → rule10 list ≡ passed
  unfolding rule10 repeat_in refuse
  once_pass e = ap (refuse 10) e

module _ {n : ℕ} {list a : List ℕ} {at : ℕ} {m : List ℕ} where
  by_rules : {r : Result ℕ Refusal} → TakenIn n list a at r m
      → answer_of r ≡ ruled_by (eqb (length list) 0) (earliest (leb n) list) (repeat_in list) (length list)
  unfolding ruled_by list_ruled rule8 unknown_in rule10 repeat_in
  by_rules taken = taken.said

  pub were_nodes : {c : ℕ} → TakenIn n list a at (Ok c) m → AllNodes n list at c m
  were_nodes {c} taken =
      let told = nodes-told (length list) _ _ _ (by_rules taken) in
      let known = all_known (sym told.1) in
      let once = each-once list (sym told.2) in
      let long : c ≡ length list = told.3 in
      record {
        count = long;
        some = positive (length list) (eqb-false (length list) 0 told.0) long;
        few = omega (arith, fits n list (known-below known) once);
        known = known;
        once = distinct-times list once;
        stands = ap (part m at) long ∙ taken.stands (ap answered long);
        not_empty_lem = some_pass list told.0;
        none_unknown = known_pass list n told.1;
        none_repeated = once_pass list told.2;
      }
    where
      positive : (k : ℕ) → (k ≡ 0 → ⊥) → c ≡ k → 0 < c
      positive k ne e = omega arith
