-- What follows a place on a line: where keys rise, those above the key at a place are the ones behind it.
-- Rests on Along, Finding and Rises.
use Rattle.std.proofs.Common.{◌≡◌, ℕ, zero, suc, ◌+◌, ◌<◌, ◌≤◌, Bool, true, cond, ltb, List, [], ◌∷◌, map, length, get_or, drop, sym, refl, ap, ◌∙◌, subst, true≢false, add-one, arith, drop_of_length-le, drop-cons, le-ltb, lt-ltb}
use lib.ListN.{length-map}
use Rattle.lists.specs.Lists.{Rising, keep, member}
use Rattle.lists.specs.Found.{absent, at, front}
use Rattle.paper.specs.Lookup.{lookup}
use Rattle.lookup.specs.Line.{Line, positions_on}
use Rattle.lookup.proofs.Along.{get_or-map_in, length-along, along-is}
use Rattle.lookup.proofs.Finding.{lookup_finds, lookup_absent}
use Rattle.lookup.proofs.Rises.{rising_later, rising-rest}

module _ (g : ℕ → ℕ) where
  first_below : (x : ℕ) (xs : List ℕ) → Rising (map g (x ∷ xs)) → (i : ℕ) → i < length xs → g x < g (get_or xs i 0)
  first_below x xs r i h =
      subst (λ (k : ℕ). g x < k) (get_or-map_in g xs i h) (rising_later (map g (x ∷ xs)) r zero (suc i) (omega arith) (omega (arith, length-map xs g)))

  passing : (p : ℕ) (xs : List ℕ) → ((i : ℕ) → i < length xs → p < g (get_or xs i 0)) → keep (λ v. ltb p (g v)) xs ≡ xs
  passing p [] h = refl
  passing p (x ∷ xs) h =
      ap (λ (t : Bool). cond t (x ∷ keep (λ v. ltb p (g v)) xs) (keep (λ v. ltb p (g v)) xs)) (lt-ltb p (g x) (h zero (omega arith)))
      ∙ ap (λ (l : List ℕ). x ∷ l) (passing p xs (λ i l. h (suc i) (omega arith)))

  behind : (p : ℕ) (xs : List ℕ) → Rising (map g xs) → (i : ℕ) → i < length xs → g (get_or xs i 0) ≡ p → keep (λ v. ltb p (g v)) xs ≡ drop (suc i) xs
  behind p [] r i h e = absurd (omega arith)
  behind p (x ∷ xs) r zero h e =
      ap (λ (t : Bool). cond t (x ∷ keep (λ v. ltb p (g v)) xs) (keep (λ v. ltb p (g v)) xs)) (le-ltb p (g x) (omega arith))
      ∙ passing p xs (λ i l. omega (arith, first_below x xs r i l))
  behind p (x ∷ xs) r (suc i) h e =
      ap (λ (t : Bool). cond t (x ∷ keep (λ v. ltb p (g v)) xs) (keep (λ v. ltb p (g v)) xs)) (le-ltb p (g x) (omega (arith, first_below x xs r i (omega arith))))
      ∙ behind p xs (rising-rest (g x) (map g xs) r) i (omega arith) e

-- ---- on a line, where the lookup found a position

pub not_absent : (nodes positions : List ℕ) (p : ℕ) → member p (positions_on nodes positions) ≡ true → lookup (positions_on nodes positions) p ≡ absent → ⊥
not_absent nodes positions p there e = true≢false (sym there ∙ (lookup_absent (positions_on nodes positions) p).0 e)

module _ {nodes positions : List ℕ} (line : Line nodes positions) (p i : ℕ) (e : lookup (positions_on nodes positions) p ≡ at i) where
  pub on_line : i < length nodes
  on_line = omega (arith, (lookup_finds (positions_on nodes positions) p i e).inside, length-along nodes positions)

  those_behind : keep (λ v. ltb p (get_or positions v 0)) nodes ≡ drop (i + 1) nodes
  unfolding positions_on
  those_behind =
      behind (λ v. get_or positions v 0) p nodes line.rises i on_line (sym (along-is nodes positions i on_line) ∙ (lookup_finds (positions_on nodes positions) p i e).holds)
      ∙ ap (λ (k : ℕ). drop k nodes) (sym (add-one i))

  pub next-node : {v : ℕ} → i + 1 < length nodes → v ≡ get_or nodes (i + 1) 0 → at v ≡ front (keep (λ v. ltb p (get_or positions v 0)) nodes)
  next-node h is = ap at is ∙ sym (ap front those_behind ∙ ap front (drop-cons nodes (i + 1) 0 h))

  pub line-ends : length nodes ≤ i + 1 → absent ≡ front (keep (λ v. ltb p (get_or positions v 0)) nodes)
  line-ends h = sym (ap front those_behind ∙ ap front (drop_of_length-le nodes h))
