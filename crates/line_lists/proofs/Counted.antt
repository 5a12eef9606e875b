-- The area after the counting: a 0 at `line_starts`, each line's cursor at the line's start, and the rest as it was.
-- Rests on counting_sort.Whole.
use Prim.Native.Nat.{ℕ, ◌+◌, ◌<◌}
use native.Mathlib.Omega.{arith}
use native.Mathlib.Nat.{add-zero}
use mathlib.Core.Path.{◌≡◌, sym, ap, ◌∙◌}
use mathlib.Core.Logic.{inl, inr}
use mathlib.Core.List.{List}
use lib.ListN.{length, get_or, replicate, length-replicate, get_or-replicate}
use lib.Seq.{sets, length-sets}
use Rattle.lists.proofs.Sections.{Apart, part, part_same, get_d_part, get_or-sets_in, get_or-sets-out}
use Rattle.lists.proofs.Upto.{get_or-table}
use Rattle.counting_sort.specs.Sorted.{below}
use Rattle.counting_sort.specs.Keyed.{Sorting, keys_of, tallied, sums_before}
use Rattle.counting_sort.proofs.Tallying.{length-tallied}
use Rattle.counting_sort.proofs.Summing.{length_sums}
use Rattle.counting_sort.proofs.Whole.{ready₃}

-- outside a section is outside what stands behind its first word
pub behind-first : (j at n : ℕ) → Apart j at (n + 1) → Apart j (at + 1) n
behind-first j at n (inl h) = inl (omega arith)
behind-first j at n (inr h) = inr (omega arith)

-- ks are the lines to count, below k
pub record Counted (a m : List ℕ) (line_starts k : ℕ) (ks : List ℕ) : Type 0 where
  pub long : length m ≡ length a
  pub nought : get_or m line_starts 0 ≡ 0
  pub cursor : (l : ℕ) → l < k → get_or m (line_starts + 1 + l) 0 ≡ below ks l
  pub rest : (j : ℕ) → Apart j line_starts (k + 1) → get_or m j 0 ≡ get_or a j 0

module _ {a : List ℕ} {lines entries line_starts k nodes : ℕ} (ready : Sorting a lines entries line_starts k nodes)
    {a₁ : List ℕ} (e₁ : a₁ ≡ sets a line_starts (replicate (k + 1) 0))
    {a₂ : List ℕ} (e₂ : a₂ ≡ sets a₁ (line_starts + 1) (tallied (keys_of a₁ lines entries) k entries))
    {a₃ : List ℕ} (e₃ : a₃ ≡ sets a₂ (line_starts + 1) (sums_before (part a₂ (line_starts + 1) k) k)) where
  as_long : length a₃ ≡ length a
  as_long = ap length e₃ ∙ simp length-sets (ap length e₂ ∙ simp length-sets (ap length e₁ ∙ simp length-sets))

  outside : (j : ℕ) → Apart j (line_starts + 1) k → get_or a₃ j 0 ≡ get_or a₁ j 0
  outside j far =
      ap (λ (m : List ℕ). get_or m j 0) e₃
      ∙ get_or-sets-out a₂ (line_starts + 1) (sums_before (part a₂ (line_starts + 1) k) k) j 0 (rw length_sums far)
      ∙ ap (λ (m : List ℕ). get_or m j 0) e₂
      ∙ get_or-sets-out a₁ (line_starts + 1) (tallied (keys_of a₁ lines entries) k entries) j 0 (rw length-tallied far)

  stands : (j : ℕ) → Apart j line_starts (k + 1) → get_or a₃ j 0 ≡ get_or a j 0
  stands j far =
      outside j (behind-first j line_starts k far) ∙ ap (λ (m : List ℕ). get_or m j 0) e₁
      ∙ get_or-sets-out a line_starts (replicate (k + 1) 0) j 0 (rw length-replicate far)

  first : get_or a₃ line_starts 0 ≡ 0
  first =
      outside line_starts (inl (omega arith)) ∙ ap (λ (m : List ℕ). get_or m line_starts 0) e₁
      ∙ ap (λ (i : ℕ). get_or (sets a line_starts (replicate (k + 1) 0)) i 0) (sym (add-zero line_starts))
      ∙ get_or-sets_in a line_starts (replicate (k + 1) 0) 0 0 (rw length-replicate (omega arith))
      (rw length-replicate (omega (arith, ready.after, ready.room)))
      ∙ get_or-replicate (k + 1) 0 0 0 (omega arith)

  same_lines : keys_of a₃ lines entries ≡ keys_of a lines entries
  same_lines =
      part_same a₃ a lines entries 0 as_long (omega (arith, ready.apart, ready.after, ready.room))
      (λ i h. stands (lines + i) (inl (omega (arith, ready.apart))))

  pub counted : Counted a a₃ line_starts k (keys_of a lines entries)
  counted =
      record {
        long = as_long;
        nought = first;
        cursor = λ l h.
            sym (get_d_part a₃ (line_starts + 1) k l 0 h) ∙ ap (λ (x : List ℕ). get_or x l 0) (ready₃ ready e₁ e₂ e₃).cursors
            ∙ get_or-table (below (keys_of a₃ lines entries)) k l 0 h
            ∙ ap (λ (x : List ℕ). below x l) same_lines;
        rest = stands;
      }
