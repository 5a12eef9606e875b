-- Two lists compared by counters: each number of the one counts up, each of the other down.
-- Rests on lists.Count and lists.Compare.
use Prim.Native.Nat.{ℕ, suc, ◌+◌, ◌-◌, ◌≤◌, ◌<◌}
use native.Mathlib.Decide.{ℕ_discrete}
use native.Mathlib.Numerals.{add-one}
use native.Mathlib.Omega.{arith}
use mathlib.Core.Path.{◌≡◌, refl, sym, ap, ◌∙◌}
use mathlib.Core.Bool.{Bool, true, false, not}
use mathlib.Core.List.{List, [], ◌∷◌}
use lib.Dec.{T, eqb}
use lib.ListN.{length, get_or, take, set}
use lib.Seq.{get_or-set_same, get_or-set_other, length-take-le}
use Rattle.lists.specs.Lists.{one, count, times}
use Rattle.lists.specs.Bounds.{Below}
use Rattle.lists.proofs.Count.{one_eq, one_ne, times-take, count-take-suc}
use Rattle.lists.proofs.Compare.{fewer, same_length}
use Rattle.lists.proofs.Tests.{Says, says_yes_lem, says_no_lem}
use Rattle.counting_sort.proofs.Counting.{times-length}
use Rattle.groups.specs.Groups.{SameBag, Known, AtZero, Counts, Taken, Comparing}

pub known-below : (n : ℕ) (xs : List ℕ) → Known n xs → Below n xs
known-below n [] h k l = refl
known-below n (x ∷ xs) h k l =
    let ne : k ≡ x → ⊥ = λ e. omega (arith, h 0 (omega arith)) in
    omega (arith, one_ne k x ne, known-below n xs (λ i m. h (suc i) (omega arith)) k l)

-- ---- a turn of either loop: the first i numbers are counted, and x comes next

module _ (xs : List ℕ) (i : ℕ) (h : i < length xs) {x : ℕ} (is : x ≡ get_or xs i 0) where
  one_more_here : times x (take (i + 1) xs) ≡ times x (take i xs) + 1
  one_more_here =
      ap (λ (k : ℕ). times x (take k xs)) (add-one i)
      ∙ count-take-suc (eqb x) xs i h
      ∙ ap (λ (k : ℕ). times x (take i xs) + k) (one_eq x (get_or xs i 0) is)

  none-there : (w : ℕ) → (w ≡ x → ⊥) → times w (take (i + 1) xs) ≡ times w (take i xs)
  none-there w ne =
      ap (λ (k : ℕ). times w (take k xs)) (add-one i)
      ∙ count-take-suc (eqb w) xs i h
      ∙ omega (arith, one_ne w (get_or xs i 0) (λ e. ne (e ∙ sym is)))

  module _ (c : List ℕ) (inside : x < length c) where
    pub counted_up_lem : ((w : ℕ) → get_or c w 0 ≡ times w (take i xs)) → (w : ℕ) → get_or (set c x (get_or c x 0 + 1)) w 0 ≡ times w (take (i + 1) xs)
    counted_up_lem counts w = go (ℕ_discrete w x)
      where
        go : Dec (w ≡ x) → get_or (set c x (get_or c x 0 + 1)) w 0 ≡ times w (take (i + 1) xs)
        go (yes e) =
            ap (λ (y : ℕ). get_or (set c x (get_or c x 0 + 1)) y 0) e
            ∙ get_or-set_same c x (get_or c x 0 + 1) 0 inside
            ∙ ap (λ (k : ℕ). k + 1) (counts x)
            ∙ sym one_more_here
            ∙ ap (λ (y : ℕ). times y (take (i + 1) xs)) (sym e)
        go (no ne) = get_or-set_other c x w (get_or c x 0 + 1) 0 ne ∙ counts w ∙ sym (none-there w ne)

    pub counter_fits : length xs < 65536 → ((w : ℕ) → get_or c w 0 ≡ times w (take i xs)) → get_or c x 0 + 1 < 65536
    counter_fits few counts = omega (arith, counts x, times-length (take i xs) x, length-take-le i xs (omega arith))

    module _ (c₀ : List ℕ) (left : (w : ℕ) → get_or c w 0 + times w (take i xs) ≡ get_or c₀ w 0) where
      pub counted-down : (get_or c x 0 ≡ 0 → ⊥) → (w : ℕ) → get_or (set c x (get_or c x 0 - 1)) w 0 + times w (take (i + 1) xs) ≡ get_or c₀ w 0
      counted-down some w = go (ℕ_discrete w x)
        where
          go : Dec (w ≡ x) → get_or (set c x (get_or c x 0 - 1)) w 0 + times w (take (i + 1) xs) ≡ get_or c₀ w 0
          go (yes e) =
              ap (λ (y : ℕ). get_or (set c x (get_or c x 0 - 1)) y 0 + times y (take (i + 1) xs)) e
              ∙ omega (arith, get_or-set_same c x (get_or c x 0 - 1) 0 inside, one_more_here, left x, some)
              ∙ ap (λ (y : ℕ). get_or c₀ y 0) (sym e)
          go (no ne) = omega (arith, get_or-set_other c x w (get_or c x 0 - 1) 0 ne, none-there w ne, left w)

      -- a counter that is at 0 falls short
      pub falls_short : get_or c x 0 ≡ 0 → Taken xs c₀ false c
      falls_short none =
          record {
            down = λ t. absurd t;
            short = λ t. record { which = x; less = omega (arith, left x, one_more_here, times-take x (i + 1) xs) };
          }

-- ---- the two loops together

-- how many are not w
pub others : (w : ℕ) (zs : List ℕ) → times w zs + count (λ z. not (eqb w z)) zs ≡ length zs
others w [] = refl
others w (z ∷ zs) = omega (arith, others w zs, one_not (eqb w z))
  where
    one_not : (t : Bool) → one t + one (not t) ≡ 1
    one_not true = refl
    one_not false = refl

module _ (xs ys : List ℕ) where
  -- no number stands more often in ys, and there are as many: so none stands less often
  pub as_often : (n : ℕ) → Below n ys → length xs ≡ length ys → ((w : ℕ) → times w ys ≤ times w xs) → SameBag xs ys
  as_often n below long few w =
      omega (arith, few w, others w xs, others w ys, fewer (λ z. not (eqb w z)) n ys xs below (λ k h. few k))

module _ {xs ys c : List ℕ} (ready : Comparing xs ys c) where
  pub other_lengths : (length xs ≡ length ys → ⊥) → Says false (SameBag xs ys)
  other_lengths ne =
      says_no_lem
      (λ same. ne (same_length (length c) xs ys (known-below (length c) xs ready.left) (known-below (length c) ys ready.right) (λ k h. same k)))

  module _ {c₁ c₂ : List ℕ} (counts : Counts xs c₁) where
    pub compared : length xs ≡ length ys → (r : Bool) → Taken ys c₁ r c₂ → Says r (SameBag xs ys)
    compared long true taken =
        says_yes_lem
        (as_often xs ys (length c) (known-below (length c) ys ready.right) long (λ w. omega (arith, taken.down tt w, counts w)))
    compared long false taken =
        says_no_lem (λ same. let s = taken.short tt in omega (arith, s.less, counts s.which, same s.which))

    pub zero_again : length xs ≡ length ys → (r : Bool) → Taken ys c₁ r c₂ → T r → AtZero c₂
    zero_again long true taken t =
        λ w. omega
        (arith, taken.down tt w, counts w, as_often xs ys (length c) (known-below (length c) ys ready.right) long (λ w. omega (arith, taken.down tt w, counts w)) w)
    zero_again long false taken t = absurd t
