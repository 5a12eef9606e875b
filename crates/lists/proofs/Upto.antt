-- Laws of the numbers in a row and of a table of a function over them, `map f (upto n)`.
-- Rests on lib.Seq (lists equal by their elements).
use Prim.Native.Nat.{ℕ, zero, suc, ◌+◌, ◌≤◌, ◌<◌}
use native.Mathlib.Decide.{ℕ_discrete}
use native.Mathlib.Numerals.{add-one}
use native.Mathlib.Omega.{arith}
use mathlib.Core.Path.{◌≡◌, refl, sym, ap, ap₂, ◌∙◌}
use mathlib.Core.Logic.{◌≢◌}
use mathlib.Core.Bool.{Bool, true, false, cond}
use mathlib.Core.List.{List, [], ◌∷◌, ◌++◌, map, flat_map, append_assoc, map-append}
use lib.ListN.{replicate, length, get_or, set, length-set, length-map}
use lib.Seq.{sets, ext_get_or, get_or-set_same, get_or-set_other}
use Rattle.lists.proofs.Sections.{sets_snoc, get_or-sets_in}
use Rattle.lists.specs.Lists.{from, upto, keep, count}

-- where a loop that counts up to l is left, what stands after k turns stands after l
pub at_the_end : {A : Type 0} (after : ℕ → A) {k l : ℕ} → k ≤ l → l ≤ k → after k ≡ after l
at_the_end after low high = ap after (omega arith)

-- ---- in a row

-- where a row starts, and one number further on
pub at_first : (n : ℕ) → n ≡ n + zero
at_first n = omega arith

pub further : (n k : ℕ) → suc n + k ≡ n + suc k
further n k = omega arith

pub from_snoc : (n k : ℕ) → from n (suc k) ≡ from n k ++ ((n + k) ∷ [])
from_snoc n zero = ap (λ (m : ℕ). m ∷ []) (at_first n)
from_snoc n (suc k) = ap (λ (l : List ℕ). n ∷ l) (from_snoc (suc n) k ∙ ap (λ (m : ℕ). from (suc n) k ++ (m ∷ [])) (further n k))

pub upto-suc : (n : ℕ) → upto (suc n) ≡ upto n ++ (n ∷ [])
upto-suc n = from_snoc 0 n ∙ ap (λ (m : ℕ). upto n ++ (m ∷ [])) (plain n)
  where
    plain : (n : ℕ) → 0 + n ≡ n
    plain n = omega arith

pub from-add : (n j k : ℕ) → from n (j + k) ≡ from n j ++ from (n + j) k
from-add n zero k = ap (λ (m : ℕ). from n m) (zero_first k) ∙ ap (λ (m : ℕ). from m k) (at_first n)
  where
    zero_first : (k : ℕ) → zero + k ≡ k
    zero_first k = omega arith
from-add n (suc j) k =
    ap (λ (m : ℕ). from n m) (out j k) ∙ ap (λ (l : List ℕ). n ∷ l) (from-add (suc n) j k ∙ ap (λ (m : ℕ). from (suc n) j ++ from m k) (further n j))
  where
    out : (j k : ℕ) → suc j + k ≡ suc (j + k)
    out j k = omega arith

pub length_from : (n k : ℕ) → length (from n k) ≡ k
length_from n zero = refl
length_from n (suc k) = ap suc (length_from (suc n) k)

pub get_or-from : (n k i d : ℕ) → i < k → get_or (from n k) i d ≡ n + i
get_or-from n zero i d h = absurd (nothing h)
  where
    nothing : {i : ℕ} → i < zero → ⊥
    nothing h = omega arith
get_or-from n (suc k) zero d h = at_first n
get_or-from n (suc k) (suc i) d h = get_or-from (suc n) k i d (omega arith) ∙ further n i

module _ {A : Type 0} (f g : ℕ → A) (same : (i : ℕ) → f (suc i) ≡ g i) where
  -- what is made of them one number further on
  pub map-from-suc : (n k : ℕ) → map f (from (suc n) k) ≡ map g (from n k)
  map-from-suc n zero = refl
  map-from-suc n (suc k) =
      ap (λ (x : A). x ∷ map f (from (suc (suc n)) k)) (same n) ∙ ap (λ (r : List A). g n ∷ r) (map-from-suc (suc n) k)

-- ---- two lists joined

module _ {A : Type 0} where
  pub replicate_snoc : (n : ℕ) (a : A) → replicate (suc n) a ≡ replicate n a ++ (a ∷ [])
  replicate_snoc zero a = refl
  replicate_snoc (suc n) a = ap (λ (r : List A). a ∷ r) (replicate_snoc n a)

module _ {A : Type 0} where
  pub keep_append : (f : A → Bool) (xs ys : List A) → keep f (xs ++ ys) ≡ keep f xs ++ keep f ys
  keep_append f [] ys = refl
  keep_append f (x ∷ xs) ys = choose (f x) (keep_append f xs ys)
    where
      choose : (t : Bool) → keep f (xs ++ ys) ≡ keep f xs ++ keep f ys
          → cond t (x ∷ keep f (xs ++ ys)) (keep f (xs ++ ys)) ≡ cond t (x ∷ keep f xs) (keep f xs) ++ keep f ys
      choose true e = ap (λ (l : List A). x ∷ l) e
      choose false e = e

  pub count-append : (f : A → Bool) (xs ys : List A) → count f (xs ++ ys) ≡ count f xs + count f ys
  count-append f [] ys = omega arith
  count-append f (x ∷ xs) ys = omega (arith, count-append f xs ys)

module _ {A B : Type 0} where
  pub flat_map-append : (f : A → List B) (xs ys : List A) → flat_map f (xs ++ ys) ≡ flat_map f xs ++ flat_map f ys
  unfolding flat_map
  flat_map-append f [] ys = refl
  flat_map-append f (x ∷ xs) ys =
      ap (λ (l : List B). f x ++ l) (flat_map-append f xs ys) ∙ sym (append_assoc (f x) (flat_map f xs) (flat_map f ys))

-- ---- a table of a function

module _ {A : Type 0} where
  pub length-table : (f : ℕ → A) (n : ℕ) → length (map f (upto n)) ≡ n
  length-table f n = length-map (upto n) f ∙ length_from 0 n

  pub get_or-table : (f : ℕ → A) (n i : ℕ) (d : A) → i < n → get_or (map f (upto n)) i d ≡ f i
  get_or-table f n i d h = inside 0 n i h ∙ ap f (plain i)
    where
      plain : (i : ℕ) → 0 + i ≡ i
      plain i = omega arith

      inside : (m n i : ℕ) → i < n → get_or (map f (from m n)) i d ≡ f (m + i)
      inside m zero i h = absurd (nothing h)
        where
          nothing : {i : ℕ} → i < zero → ⊥
          nothing h = omega arith
      inside m (suc n) zero h = ap f (at_first m)
      inside m (suc n) (suc i) h = inside (suc m) n i (omega arith) ∙ ap f (further m i)

  pub table-suc : (f : ℕ → A) (n : ℕ) → map f (upto (suc n)) ≡ map f (upto n) ++ (f n ∷ [])
  table-suc f n = ap (map f) (upto-suc n) ∙ map-append f (upto n) (n ∷ [])

  -- a list is the table of its elements
  pub table_of : (l : List A) (d : A) → map (λ i. get_or l i d) (upto (length l)) ≡ l
  table_of l d =
      ext_get_or d (map (λ i. get_or l i d) (upto (length l))) l (length-table (λ i. get_or l i d) (length l))
      (λ i h. get_or-table (λ j. get_or l j d) (length l) i d (omega (arith, length-table (λ j. get_or l j d) (length l))))

  -- two tables that agree below n
  pub table_same : (f g : ℕ → A) (n : ℕ) → ((i : ℕ) → i < n → f i ≡ g i) → map f (upto n) ≡ map g (upto n)
  table_same f g zero h = refl
  table_same f g (suc n) h =
      table-suc f n ∙ ap (λ (l : List A). l ++ (f n ∷ [])) (table_same f g n (λ i lt. h i (omega arith)))
      ∙ ap (λ (x : A). map g (upto n) ++ (x ∷ [])) (h n (omega arith))
      ∙ sym (table-suc g n)

  -- a store into a table: the table of the function changed there
  pub set-table : (f g : ℕ → A) (n i : ℕ) (v : A) → i < n → g i ≡ v → ((j : ℕ) → j < n → j ≢ i → g j ≡ f j)
      → set (map f (upto n)) i v ≡ map g (upto n)
  set-table f g n i v h here there =
      ext_get_or v (set (map f (upto n)) i v) (map g (upto n)) (long ∙ sym (length-table g n))
      (λ j lt. at j (omega (arith, long)) (ℕ_discrete j i))
    where
      long : length (set (map f (upto n)) i v) ≡ n
      long = length-set (map f (upto n)) i v ∙ length-table f n

      at : (j : ℕ) → j < n → Dec (j ≡ i) → get_or (set (map f (upto n)) i v) j v ≡ get_or (map g (upto n)) j v
      at j lt (yes e) =
          ap (λ (k : ℕ). get_or (set (map f (upto n)) i v) k v) e
          ∙ get_or-set_same (map f (upto n)) i v v (omega (arith, length-table f n))
          ∙ sym here
          ∙ ap g (sym e)
          ∙ sym (get_or-table g n j v lt)
      at j lt (no ne) =
          get_or-set_other (map f (upto n)) i j v v ne ∙ get_or-table f n j v lt ∙ sym (there j lt ne) ∙ sym (get_or-table g n j v lt)

-- ---- a section filled from the front by a function of the place

module _ {A : Type 0} (f : ℕ → A) where
  -- one place more
  pub sets-upto-next : (l : List A) (n : ℕ) → set (sets l 0 (map f (upto n))) n (f n) ≡ sets l 0 (map f (upto (n + 1)))
  sets-upto-next l n =
      sym
      (ap (sets l 0) ((ap (λ (m : ℕ). map f (upto m)) (add-one n) ∙ table-suc f n)) ∙ sets_snoc l 0 (map f (upto n)) (f n)
      ∙ ap (λ (i : ℕ). set (sets l 0 (map f (upto n))) i (f n)) (length_so n))
    where
      length_so : (n : ℕ) → 0 + length (map f (upto n)) ≡ n
      length_so n = omega (arith, length-table f n)

  -- what stands at a place
  pub get_or-sets-upto : (l : List A) (n i : ℕ) (d : A) → i < n → n ≤ length l → get_or (sets l 0 (map f (upto n))) i d ≡ f i
  get_or-sets-upto l n i d h fits =
      ap (λ (k : ℕ). get_or (sets l 0 (map f (upto n))) k d) (none i)
      ∙ get_or-sets_in l 0 (map f (upto n)) i d (omega (arith, length-table f n)) (omega (arith, length-table f n))
      ∙ get_or-table f n i d h
    where
      none : (i : ℕ) → i ≡ 0 + i
      none i = omega arith

-- zeros read as 0 everywhere
pub get_or-zeros : (n i : ℕ) → ◌≡◌ {A = ℕ} (get_or (replicate n 0) i 0) 0
get_or-zeros zero i = refl
get_or-zeros (suc n) zero = refl
get_or-zeros (suc n) (suc i) = get_or-zeros n i

-- ---- lists made port by port

pub keep-none : {A : Type 0} (xs : List A) → keep (λ x. false) xs ≡ []
keep-none [] = refl
keep-none (x ∷ xs) = keep-none xs

-- two makings that agree on the numbers in a row
pub flat_map-from : {A : Type 0} (f g : ℕ → List A) (n k : ℕ) → ((i : ℕ) → i < k → f (n + i) ≡ g (n + i)) → flat_map f (from n k) ≡ flat_map g (from n k)
unfolding flat_map
flat_map-from f g n zero h = refl
flat_map-from {A} f g n (suc k) h =
    ap₂ (λ (x y : List A). x ++ y) (ap f (at_first n) ∙ h 0 (omega arith) ∙ ap g (sym (at_first n)))
    (flat_map-from f g (suc n) k (λ i l. ap f (further n i) ∙ h (suc i) (omega arith) ∙ ap g (sym (further n i))))

pub flat_map-none : {A : Type 0} (n k : ℕ) → flat_map {B = A} (λ (i : ℕ). []) (from n k) ≡ []
unfolding flat_map
flat_map-none n zero = refl
flat_map-none n (suc k) = flat_map-none (suc n) k
