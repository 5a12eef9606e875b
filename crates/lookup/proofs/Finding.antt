-- The lookup finds exactly what is there: an index it answers holds the position, absent says that the position is nowhere, and on a
-- line whose positions rise the index is the only one. Rests on lists' First and on Rises.
use Rattle.std.proofs.Common.{◌≡◌, ℕ, zero, suc, ◌+◌, ◌<◌, ◌≤◌, Bool, true, false, ◌||◌, eqb, ◌↔◌, List, [], ◌∷◌, length, get_or, sym, refl, ap, ◌∙◌, subst, true≢false, arith, eq-eqb, ne_eqb, eqb-true}
use native.Mathlib.Decide.{dec_lt}
use borrow.Author.Tests.{eqb-false}
use Rattle.lists.specs.Found.{absent, at}
use Rattle.lists.specs.Lists.{Rising, member, times}
use Rattle.lists.proofs.First.{first_at, first_absent, first-is, first-none}
use Rattle.lists.proofs.Members.{member_yes}
use Rattle.lists.proofs.Places.{times-place}
use Rattle.paper.specs.Lookup.{lookup}
use Rattle.lookup.proofs.Rises.{rising_later, rising_mono}

-- ---- what an answer says

pub record Stands (positions : List ℕ) (p i : ℕ) : Type 0 where
  pub inside : i < length positions
  pub holds : get_or positions i 0 ≡ p

pub lookup_finds : (positions : List ℕ) (p i : ℕ) → lookup positions p ≡ at i → Stands positions p i
unfolding lookup
lookup_finds positions p i e =
    let found = first_at (λ k. eqb (get_or positions k 0) p) (length positions) i e in
    record { inside = found.known; holds = eqb-true (get_or positions i 0) p found.passes }

pub stands-member : (positions : List ℕ) (p i : ℕ) → Stands positions p i → member p positions ≡ true
stands-member positions p i s =
    member_yes p positions (subst (λ (n : ℕ). 1 ≤ times n positions) s.holds (times-place positions i s.inside))

nowhere_member : (p : ℕ) (positions : List ℕ) → ((i : ℕ) → i < length positions → get_or positions i 0 ≡ p → ⊥) → member p positions ≡ false
nowhere_member p [] h = refl
nowhere_member p (x ∷ xs) h =
    ap (λ (t : Bool). t || member p xs) (ne_eqb p x (λ e. h zero (omega arith) (sym e)))
    ∙ nowhere_member p xs (λ i l. h (suc i) (omega arith))

pub nowhere_absent : (positions : List ℕ) (p : ℕ) → ((i : ℕ) → i < length positions → get_or positions i 0 ≡ p → ⊥) → lookup positions p ≡ absent
unfolding lookup
nowhere_absent positions p h = first-none (λ k. eqb (get_or positions k 0) p) (length positions) (λ k l. ne_eqb (get_or positions k 0) p (h k l))

absent_nowhere : (positions : List ℕ) (p : ℕ) → lookup positions p ≡ absent → (i : ℕ) → i < length positions → get_or positions i 0 ≡ p → ⊥
unfolding lookup
absent_nowhere positions p e i h = eqb-false (get_or positions i 0) p (first_absent (λ k. eqb (get_or positions k 0) p) (length positions) e i h)

pub lookup_absent : (positions : List ℕ) (p : ℕ) → (lookup positions p ≡ absent) ↔ (member p positions ≡ false)
lookup_absent positions p = (
  λ e. nowhere_member p positions (absent_nowhere positions p e),
  λ e. nowhere_absent positions p (λ i h q. true≢false (sym (stands-member positions p i (record { inside = h; holds = q })) ∙ e)),
)

-- ---- on a line whose positions rise

module _ (positions : List ℕ) (rises : Rising positions) (p : ℕ) where
  pub lookup_at : (i : ℕ) → i < length positions → get_or positions i 0 ≡ p → lookup positions p ≡ at i
  unfolding lookup
  lookup_at i h e =
      first-is (λ k. eqb (get_or positions k 0) p) (length positions) i
      record {
        known = h;
        passes = eq-eqb (get_or positions i 0) p e;
        fail = λ k l. ne_eqb (get_or positions k 0) p (λ q. omega (arith, rising_later positions rises k i l h));
      }

  -- between two neighbours there is no position
  pub lookup-between : (low high : ℕ) → low < high → high ≤ low + 1 → high < length positions → get_or positions low 0 < p → p < get_or positions high 0
      → lookup positions p ≡ absent
  lookup-between low high apart next inside above under = nowhere_absent positions p (λ i h e. side i h e (dec_lt low i))
    where
      side : (i : ℕ) → i < length positions → get_or positions i 0 ≡ p → Dec (low < i) → ⊥
      side i h e (yes l) = omega (arith, rising_mono positions rises high i (omega arith) h)
      side i h e (no n) = omega (arith, rising_mono positions rises i low (omega arith) (omega arith))

  -- nor before the first, nor behind the last
  pub lookup-before : p < get_or positions 0 0 → lookup positions p ≡ absent
  lookup-before under = nowhere_absent positions p (λ i h e. omega (arith, rising_mono positions rises zero i (omega arith) h))

  pub lookup-behind : (last : ℕ) → last < length positions → length positions ≤ last + 1 → get_or positions last 0 < p → lookup positions p ≡ absent
  lookup-behind last inside end above = nowhere_absent positions p (λ i h e. omega (arith, rising_mono positions rises i last (omega arith) inside))
