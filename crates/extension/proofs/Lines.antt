-- Extending on one line, where the records are told by their numbers: none is on the line, or exactly one is.
-- Rests on paper's Records.
use Prim.Native.Nat.{ℕ, zero, suc, ◌+◌, ◌≤◌, ◌<◌}
use native.Mathlib.Decide.{ℕ_discrete}
use native.Mathlib.Omega.{arith}
use borrow.Author.Tests.{eq-eqb, ne_eqb}
use mathlib.Core.Path.{◌≡◌, refl, sym, ap, ap₂, ◌∙◌}
use mathlib.Core.Bool.{Bool, cond}
use mathlib.Core.List.{List, [], ◌∷◌, ◌++◌, map}
use Rattle.lists.specs.Lists.{from}
use Rattle.paper.specs.Intervals.{Interval, records, apart}
use Rattle.paper.specs.Records.{along, grow, behind, extend_line, extend_lines}
use Rattle.extension.specs.Room.{record_of}

map-after : (f g : ℕ → Interval) (n k : ℕ) → ((j : ℕ) → n ≤ j → f j ≡ g j) → map f (from n k) ≡ map g (from n k)
map-after f g n zero same = refl
map-after f g n (suc k) same =
    ap₂ (λ (r : Interval) (rs : List Interval). r ∷ rs) (same n (omega arith)) (map-after f g (suc n) k (λ j h. same j (omega arith)))

module _ (b a : List ℕ) (p x : ℕ) where
  -- a record on another line is passed by
  passed_by : (r : Interval) (rs : List Interval) → (r.line ≡ x → ⊥) → extend_line b a p x (r ∷ rs) ≡ behind r (extend_line b a p x rs)
  unfolding extend_line
  passed_by r rs ne = ap (λ (t : Bool). cond t (grow (along b a x) p r rs) (behind r (extend_line b a p x rs))) (ne_eqb r.line x ne)

  met : (r : Interval) (rs : List Interval) → r.line ≡ x → extend_line b a p x (r ∷ rs) ≡ grow (along b a x) p r rs
  unfolding extend_line
  met r rs e = ap (λ (t : Bool). cond t (grow (along b a x) p r rs) (behind r (extend_line b a p x rs))) (eq-eqb r.line x e)

  -- "new records last"
  pub extend-new : (f : ℕ → Interval) (n k : ℕ) → ((j : ℕ) → n ≤ j → j < n + k → (f j).line ≡ x → ⊥)
      → extend_line b a p x (map f (from n k)) ≡ records (map f (from n k) ++ (record_of x p p ∷ []))
  unfolding extend_line behind
  extend-new f n zero other = refl
  extend-new f n (suc k) other =
      passed_by (f n) (map f (from (suc n) k)) (other n (omega arith) (omega arith))
      ∙ ap (behind (f n)) (extend-new f (suc n) k (λ j low high. other j (omega arith) (omega arith)))

  module _ (f : ℕ → Interval) (s : ℕ) (line : (f s).line ≡ x) where
    -- record s is the first on the line, and grows
    pub extend_at : (g : ℕ → Interval) → ((j : ℕ) → (j ≡ s → ⊥) → g j ≡ f j) → ((rest : List Interval) → grow (along b a x) p (f s) rest ≡ records (g s ∷ rest))
        → (n k : ℕ) → n ≤ s → s < n + k → ((j : ℕ) → n ≤ j → j < s → (f j).line ≡ x → ⊥) → extend_line b a p x (map f (from n k)) ≡ records (map g (from n k))
    unfolding behind
    extend_at g agree grows n zero low high other = absurd (omega arith)
    extend_at g agree grows n (suc k) low high other =
        go (ℕ_discrete n s) (λ later. extend_at g agree grows (suc n) k later (omega arith) (λ j o h. other j (omega arith) h))
      where
        go : Dec (n ≡ s) → (suc n ≤ s → extend_line b a p x (map f (from (suc n) k)) ≡ records (map g (from (suc n) k)))
            → extend_line b a p x (f n ∷ map f (from (suc n) k)) ≡ records (g n ∷ map g (from (suc n) k))
        go (yes e) rest =
            met (f n) (map f (from (suc n) k)) (ap (λ (j : ℕ). (f j).line) e ∙ line)
            ∙ ap (λ (j : ℕ). grow (along b a x) p (f j) (map f (from (suc n) k))) e ∙ grows (map f (from (suc n) k))
            ∙ ap₂ (λ (j : ℕ) (rs : List Interval). records (g j ∷ rs)) (sym e)
            (map-after f g (suc n) k (λ j h. sym (agree j (λ o. omega (arith, e)))))
        go (no ne) rest =
            passed_by (f n) (map f (from (suc n) k)) (other n (omega arith) (omega (arith, ne)))
            ∙ ap (behind (f n)) (rest (omega (arith, ne))) ∙ ap (λ (r : Interval). records (r ∷ map g (from (suc n) k))) (sym (agree n ne))

    -- .. or cannot
    pub extend_not : ((rest : List Interval) → grow (along b a x) p (f s) rest ≡ apart)
        → (n k : ℕ) → n ≤ s → s < n + k → ((j : ℕ) → n ≤ j → j < s → (f j).line ≡ x → ⊥) → extend_line b a p x (map f (from n k)) ≡ apart
    unfolding behind
    extend_not stops n zero low high other = absurd (omega arith)
    extend_not stops n (suc k) low high other =
        go (ℕ_discrete n s) (λ later. extend_not stops (suc n) k later (omega arith) (λ j o h. other j (omega arith) h))
      where
        go : Dec (n ≡ s) → (suc n ≤ s → extend_line b a p x (map f (from (suc n) k)) ≡ apart) → extend_line b a p x (f n ∷ map f (from (suc n) k)) ≡ apart
        go (yes e) rest =
            met (f n) (map f (from (suc n) k)) (ap (λ (j : ℕ). (f j).line) e ∙ line)
            ∙ ap (λ (j : ℕ). grow (along b a x) p (f j) (map f (from (suc n) k))) e ∙ stops (map f (from (suc n) k))
        go (no ne) rest = passed_by (f n) (map f (from (suc n) k)) (other n (omega arith) (omega (arith, ne))) ∙ ap (behind (f n)) (rest (omega (arith, ne)))

-- nothing comes of lines behind one that stops
pub none_left : (b a : List ℕ) (p : ℕ) (ls : List ℕ) → extend_lines b a p ls apart ≡ apart
unfolding extend_lines
none_left b a p [] = refl
none_left b a p (l ∷ ls) = refl
