-- Lists laid one after the other: how long the whole is, and how a part is read there.
-- Rests on lib.Seq (reading an append) and Upto (zeros).
use Prim.Native.Nat.{ℕ, zero, suc, ◌+◌, ◌-◌, ◌≤◌, ◌<◌}
use native.Mathlib.Nat.{zero-add}
use native.Mathlib.Omega.{arith}
use mathlib.Core.Path.{◌≡◌, refl, ap, ◌∙◌}
use mathlib.Core.List.{List, [], ◌∷◌, ◌++◌, map, flat_map, flatten}
use lib.ListN.{length, get_or, take, replicate, length-append, length-replicate, get_or-append}
use lib.Seq.{slice, get_or-append-add, get_or-drop, get_or-take, ext_get_or, length-slice}
use lib.Dec.{eqb}
use Rattle.lists.specs.Lists.{sum, pad}
use Rattle.lists.specs.Bounds.{Below}
use Rattle.lists.proofs.Upto.{count-append, get_or-zeros}

-- ---- a list made long by zeros

pub length-pad : (n : ℕ) (xs : List ℕ) → length xs ≤ n → length (pad n xs) ≡ n
length-pad n xs h = omega (arith, length-append xs (replicate (n - length xs) 0), length-replicate {A = ℕ} (n - length xs) 0)

get_or-append-zeros : (xs : List ℕ) (n i : ℕ) → get_or (xs ++ replicate n 0) i 0 ≡ get_or xs i 0
get_or-append-zeros [] n i = get_or-zeros n i
get_or-append-zeros (x ∷ xs) n zero = refl
get_or-append-zeros (x ∷ xs) n (suc i) = get_or-append-zeros xs n i

-- what is read past a list's end is 0, with the zeros as without
pub get_or-pad : (n : ℕ) (xs : List ℕ) (i : ℕ) → get_or (pad n xs) i 0 ≡ get_or xs i 0
get_or-pad n xs i = get_or-append-zeros xs (n - length xs) i

-- ---- parts of known sizes

module _ {A : Type 0} (f : A → List ℕ) (size : A → ℕ) (long : (x : A) → length (f x) ≡ size x) where
  pub length-laid : (xs : List A) → length (flat_map f xs) ≡ sum (map size xs)
  unfolding flat_map
  length-laid [] = refl
  length-laid (x ∷ xs) = omega (arith, length-append (f x) (flat_map f xs), long x, length-laid xs)

  -- part n is read behind the sizes of the parts before it
  pub get_or-laid : (xs : List A) (n : ℕ) (d : A) (i : ℕ) → n < length xs → i < size (get_or xs n d)
      → get_or (flat_map f xs) (sum (map size (take n xs)) + i) 0 ≡ get_or (f (get_or xs n d)) i 0
  unfolding flat_map
  get_or-laid [] n d i h l = absurd (omega arith)
  get_or-laid (x ∷ xs) zero d i h l =
      ap (λ (j : ℕ). get_or (f x ++ flat_map f xs) j 0) (zero-add i)
      ∙ get_or-append (f x) (flat_map f xs) 0 i (omega (arith, long x))
  get_or-laid (x ∷ xs) (suc n) d i h l =
      ap (λ (j : ℕ). get_or (f x ++ flat_map f xs) j 0) (behind (sum (map size (take n xs))))
      ∙ get_or-append-add (f x) (flat_map f xs) (sum (map size (take n xs)) + i) 0
      ∙ get_or-laid xs n d i (omega arith) l
    where
      behind : (s : ℕ) → size x + s + i ≡ length (f x) + (s + i)
      behind s = omega (arith, long x)

-- .. and ends within the whole
pub laid-room : {A : Type 0} (size : A → ℕ) (xs : List A) (n : ℕ) (d : A) → n < length xs
    → sum (map size (take n xs)) + size (get_or xs n d) ≤ sum (map size xs)
laid-room size [] n d h = absurd (omega arith)
laid-room size (x ∷ xs) zero d h = omega arith
laid-room size (x ∷ xs) (suc n) d h = omega (arith, laid-room size xs n d (omega arith))

-- ---- all lists in one

pub length_flatten : (ls : List (List ℕ)) → length (flatten ls) ≡ sum (map length ls)
unfolding flatten
length_flatten [] = refl
length_flatten (l ∷ ls) = omega (arith, length-append l (flatten ls), length_flatten ls)

pub below_flatten : (n : ℕ) (ls : List (List ℕ)) → ((i : ℕ) → i < length ls → Below n (get_or ls i [])) → Below n (flatten ls)
unfolding flatten
below_flatten n [] h k l = refl
below_flatten n (x ∷ ls) h k l =
    omega (arith, count-append (eqb k) x (flatten ls), h 0 (omega arith) k l, below_flatten n ls (λ i m. h (suc i) (omega arith)) k l)

-- two lists that agree element by element, one of them a slice
pub slice_is : (xs ys : List ℕ) (f t : ℕ) → t ≡ f + length ys → t ≤ length xs → ((i : ℕ) → i < length ys → get_or xs (f + i) 0 ≡ get_or ys i 0)
    → slice f t xs ≡ ys
slice_is xs ys f t e h same =
    ext_get_or 0 (slice f t xs) ys long (λ i l. get_or-drop f (take t xs) i 0 ∙ get_or-take t xs (f + i) 0 (omega (arith, long)) ∙ same i (omega (arith, long)))
  where
    long : length (slice f t xs) ≡ length ys
    long = omega (arith, length-slice f t xs h)
