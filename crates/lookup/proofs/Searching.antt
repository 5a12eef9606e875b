-- The search on a line: what its ends say, and what each of its answers rests on.
-- Rests on Finding, Guessing, Rises and Along.
use Rattle.std.proofs.Common.{◌≡◌, ℕ, ◌+◌, ◌-◌, ◌<◌, ◌≤◌, List, length, get_or, sym, ap, ◌∙◌, subst, arith}
use native.Mathlib.Decide.{dec_lt}
use Rattle.lists.specs.Found.{absent, at}
use Rattle.paper.specs.Lookup.{lookup, guess}
use Rattle.lookup.specs.Ends.{Ends}
use Rattle.lookup.specs.Line.{Bracketed, Line, positions_on}
use Rattle.lookup.proofs.Along.{length-along}
use Rattle.lookup.proofs.Finding.{lookup_at, lookup-between, lookup-before, lookup-behind, nowhere_absent}
use Rattle.lookup.proofs.Guessing.{guess-between}
use Rattle.lookup.proofs.Rises.{rising-place}

-- where the guess looks
pub looks_between : {low high left right p g : ℕ} → Ends low high left right p → g ≡ guess low high left right p → (low < g) × (g < high)
looks_between {low} {high} {left} {right} {p} {g} ends e = subst (λ (k : ℕ). (low < k) × (k < high)) (sym e) (guess-between low high left right p ends)

module _ {nodes positions : List ℕ} (line : Line nodes positions) (p : ℕ) where
  -- ---- the answers

  pub found : (i : ℕ) {v : ℕ} → i < length nodes → v ≡ get_or (positions_on nodes positions) i 0 → v ≡ p → at i ≡ lookup (positions_on nodes positions) p
  found i h e same = sym (lookup_at (positions_on nodes positions) line.rises p i (omega (arith, length-along nodes positions)) (sym e ∙ same))

  pub none_of_none : length nodes ≡ 0 → absent ≡ lookup (positions_on nodes positions) p
  none_of_none e = sym (nowhere_absent (positions_on nodes positions) p (λ i h q. omega (arith, length-along nodes positions)))

  pub none_before : {v : ℕ} → v ≡ get_or (positions_on nodes positions) 0 0 → p < v → absent ≡ lookup (positions_on nodes positions) p
  none_before e h = sym (lookup-before (positions_on nodes positions) line.rises p (omega arith))

  pub none-behind : {v : ℕ} → 0 < length nodes → v ≡ get_or (positions_on nodes positions) (length nodes - 1) 0 → v < p → absent ≡ lookup (positions_on nodes positions) p
  none-behind some e h =
      sym (lookup-behind (positions_on nodes positions) line.rises p (length nodes - 1) (omega (arith, length-along nodes positions)) (omega (arith, length-along nodes positions)) (omega arith))

  pub none_between : {low high : ℕ} → Bracketed nodes positions p low high → high ≤ low + 1 → absent ≡ lookup (positions_on nodes positions) p
  none_between {low} {high} b next =
      sym (lookup-between (positions_on nodes positions) line.rises p low high b.apart next (omega (arith, length-along nodes positions)) b.above b.under)

  -- ---- the ends

  -- the line's own ends, once p is neither of their positions and not beyond them
  pub bracketed : {left right : ℕ} → 0 < length nodes → left ≡ get_or (positions_on nodes positions) 0 0 → right ≡ get_or (positions_on nodes positions) (length nodes - 1) 0
      → left < p → p < right → Bracketed nodes positions p 0 (length nodes - 1)
  bracketed some e f above under = record { apart = go (dec_lt 0 (length nodes - 1)); inside = omega arith; above = omega arith; under = omega arith }
    where
      go : Dec (0 < length nodes - 1) → 0 < length nodes - 1
      go (yes l) = l
      go (no n) = absurd (omega (arith, ap (λ (i : ℕ). get_or (positions_on nodes positions) i 0) (alone n)))
        where
          alone : (0 < length nodes - 1 → ⊥) → length nodes - 1 ≡ 0
          alone n = omega arith

  -- ends that are no neighbours: what the guess asks. An index is at most its position, so it is a word too
  pub ends : {low high left right : ℕ} → Bracketed nodes positions p low high → low + 1 < high
      → left ≡ get_or (positions_on nodes positions) low 0 → right ≡ get_or (positions_on nodes positions) high 0 → right < 65536 → Ends low high left right p
  ends {low} {high} b far e f word = record {
    apart = omega arith;
    few = omega (arith, rising-place (positions_on nodes positions) line.rises high (omega (arith, length-along nodes positions)));
    above = omega (arith, b.above);
    under = omega (arith, b.under);
    word = word;
  }
