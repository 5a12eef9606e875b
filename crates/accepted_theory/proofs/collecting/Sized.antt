-- How large the small map gets: its lines stand once each and below K, and a line's count is how often it was added, once a node at most.
-- Rests on Add and Known.
use Prim.Native.Nat.{ℕ, zero, suc, ◌+◌, ◌≤◌, ◌<◌}
use native.Mathlib.Decide.{ℕ_discrete}
use native.Mathlib.Omega.{arith}
use mathlib.Core.Path.{◌≡◌, refl, ap, ◌∙◌}
use mathlib.Core.Logic.{inl, inr}
use mathlib.Core.Bool.{Bool, true, false, cond}
use mathlib.Core.List.{List, [], ◌∷◌, flat_map}
use lib.ListN.{length, get_or, length-map}
use lib.Dec.{eqb}
use borrow.Author.Tests.{eqb-true, eq-eqb, ne_eqb}
use Rattle.lists.specs.Lists.{one, member, times, In}
use Rattle.lists.proofs.Upto.{count-append}
use Rattle.lists.proofs.Count.{one_eq, one_ne, cond_one, cond_add}
use Rattle.lists.proofs.Compare.{fits}
use Rattle.lists.proofs.Members.{member_yes}
use Rattle.paper.specs.Map.{N}
use Rattle.paper.specs.Area.{position, lines_of}
use Rattle.paper.specs.Accepted.{Accepted}
use Rattle.accepted_theory.specs.collecting.SmallMap.{Held, widened, add, add_lines, add_nodes}
use Rattle.accepted_theory.specs.collecting.Collected.{Sized, lines_in, count_on}
use Rattle.accepted_theory.proofs.collecting.Add.{lines-add}
use Rattle.accepted_theory.proofs.collecting.Known.{lines-once}

-- ---- counts

pub count_add : (p l : ℕ) (hs : List Held) (k : ℕ) → count_on (add p l hs) k ≡ count_on hs k + one (eqb k l)
unfolding add widened count_on
count_add p l [] k = omega (arith, cond_one (eqb k l))
count_add p l (h ∷ hs) k = go (eqb h.interval.line l) refl (count_add p l hs k)
  where
    go : (t : Bool) → eqb h.interval.line l ≡ t → count_on (add p l hs) k ≡ count_on hs k + one (eqb k l)
        → count_on (cond t (widened h p ∷ hs) (h ∷ add p l hs)) k ≡ cond (eqb k h.interval.line) h.count 0 + count_on hs k + one (eqb k l)
    go true e ih =
        omega (
          arith,
          cond_add (eqb k h.interval.line) h.count 1,
          cond_one (eqb k h.interval.line),
          ap (λ (j : ℕ). one (eqb k j)) (eqb-true h.interval.line l e),
        )
    go false e ih = omega arith

pub count-lines : (p : ℕ) (ls : List ℕ) (hs : List Held) (k : ℕ) → count_on (add_lines p ls hs) k ≡ count_on hs k + times k ls
unfolding add_lines
count-lines p [] hs k = omega arith
count-lines p (l ∷ ls) hs k = omega (arith, count-lines p ls (add p l hs) k, count_add p l hs k)

pub count-nodes : (b a vs : List ℕ) (hs : List Held) (k : ℕ) → count_on (add_nodes b a vs hs) k ≡ count_on hs k + times k (flat_map (lines_of b a) vs)
unfolding add_nodes flat_map
count-nodes b a [] hs k = omega arith
count-nodes b a (v ∷ vs) hs k =
    omega (
      arith,
      count-nodes b a vs (add_lines (position b a v) (lines_of b a v) hs) k,
      count-lines (position b a v) (lines_of b a v) hs k,
      count-append (eqb k) (lines_of b a v) (flat_map (lines_of b a) vs),
    )

pub count_nowhere : (hs : List Held) (k : ℕ) → times k (lines_in hs) ≡ 0 → count_on hs k ≡ 0
unfolding count_on
count_nowhere [] k e = refl
count_nowhere (h ∷ hs) k e = go (eqb k h.interval.line) e (count_nowhere hs k)
  where
    go : (t : Bool) → one t + times k (lines_in hs) ≡ 0 → (times k (lines_in hs) ≡ 0 → count_on hs k ≡ 0) → cond t h.count 0 + count_on hs k ≡ 0
    go true e ih = absurd (omega arith)
    go false e ih = omega (arith, ih (omega arith))

pub place-line : (hs : List Held) (i : ℕ) (d : Held) → i < length hs → 1 ≤ times (get_or hs i d).interval.line (lines_in hs)
place-line [] i d h = absurd (omega arith)
place-line (x ∷ xs) zero d h = omega (arith, one_eq x.interval.line x.interval.line refl)
place-line (x ∷ xs) (suc i) d h = omega (arith, place-line xs i d (omega arith))

-- where lines stand once each, the count in a place is its line's
pub count-place : (hs : List Held) → ((l : ℕ) → times l (lines_in hs) ≤ 1) → (i : ℕ) → i < length hs → (d : Held)
    → count_on hs (get_or hs i d).interval.line ≡ (get_or hs i d).count
unfolding count_on
count-place [] once i h d = absurd (omega arith)
count-place (x ∷ xs) once zero h d =
    omega (
      arith,
      ap (λ (t : Bool). cond t x.count 0) (eq-eqb x.interval.line x.interval.line refl),
      count_nowhere xs x.interval.line (omega (arith, once x.interval.line, one_eq x.interval.line x.interval.line refl)),
    )
count-place (x ∷ xs) once (suc i) h d =
    omega (
      arith,
      ap (λ (t : Bool). cond t x.count 0) (ne_eqb (get_or xs i d).interval.line x.interval.line other),
      count-place xs (λ l. omega (arith, once l)) i (omega arith) d,
    )
  where
    other : (get_or xs i d).interval.line ≡ x.interval.line → ⊥
    other e =
        omega (
          arith,
          once (get_or xs i d).interval.line,
          one_eq (get_or xs i d).interval.line x.interval.line e,
          place-line xs i d (omega arith),
        )

-- ---- sizes

pub sized-none : (k : ℕ) → Sized k []
sized-none k = record { below = λ l h. refl; once = λ l. omega arith; some = λ l. omega arith }

pub sized-add : {k : ℕ} {hs : List Held} → Sized k hs → (p l : ℕ) → l < k → Sized k (add p l hs)
sized-add {k} {hs} sized p l h =
    record {
      below = λ j g. omega (arith, times-add j, sized.below j g, last-most j, one_ne j l (λ e. omega arith));
      once = λ j. single j (ℕ_discrete j l) (ℕ_discrete (times l (lines_in hs)) 0);
      some = λ j. omega (arith, times-add j, sized.some j, last-most j, count_add p l hs j);
    }
  where
    last : Bool → List ℕ
    last t = cond t [] (l ∷ [])

    times-add : (j : ℕ) → times j (lines_in (add p l hs)) ≡ times j (lines_in hs) + times j (last (member l (lines_in hs)))
    times-add j = ap (times j) (lines-add p l hs) ∙ count-append (eqb j) (lines_in hs) (last (member l (lines_in hs)))

    last-most : (j : ℕ) → times j (last (member l (lines_in hs))) ≤ one (eqb j l)
    last-most j = go (member l (lines_in hs))
      where
        go : (t : Bool) → times j (last t) ≤ one (eqb j l)
        go true = omega arith
        go false = omega arith

    single : (j : ℕ) → Dec (j ≡ l) → Dec (times l (lines_in hs) ≡ 0) → times j (lines_in (add p l hs)) ≤ 1
    single j (yes e) (yes none) =
        omega (arith, times-add j, last-most j, one_eq j l e, ap (λ (i : ℕ). times i (lines_in hs)) e)
    single j (yes e) (no there) =
        omega (arith, times-add j, sized.once j, ap (λ (t : Bool). times j (last t)) (member_yes l (lines_in hs) (omega arith)))
    single j (no ne) d = omega (arith, times-add j, last-most j, one_ne j l ne, sized.once j)

pub sized-room : {k : ℕ} {hs : List Held} → Sized k hs → length hs ≤ k
sized-room {k} {hs} sized = omega (arith, fits k (lines_in hs) sized.below sized.once, length-map hs (λ h. h.interval.line))

module _ {b a : List ℕ} (acc : Accepted b a) where
  -- a node is counted once on a line at most
  pub count-most-nodes : (vs : List ℕ) → ((v : ℕ) → In v vs → v < N b) → (l : ℕ) → times l (flat_map (lines_of b a) vs) ≤ length vs
  unfolding flat_map
  count-most-nodes [] known l = omega arith
  count-most-nodes (v ∷ vs) known l =
      omega (
        arith,
        count-append (eqb l) (lines_of b a v) (flat_map (lines_of b a) vs),
        lines-once acc v (known v (inl refl)) l,
        count-most-nodes vs (λ u i. known u (inr i)) l,
      )
