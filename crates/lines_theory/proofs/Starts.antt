-- Where lists start that stand one after the other, and how they are read from there on.
-- Rests on lib.Seq (reading an append).
use Prim.Native.Nat.{ℕ, zero, suc, ◌+◌, ◌-◌, ◌≤◌, ◌<◌}
use native.Mathlib.Decide.{dec_lt}
use native.Mathlib.Omega.{arith}
use mathlib.Core.Path.{◌≡◌, refl, sym, ap, ◌∙◌}
use mathlib.Core.List.{List, [], ◌∷◌, ◌++◌, map, flatten, append_assoc}
use lib.ListN.{length, get_or, length-append, get_or-append}
use lib.Seq.{get_or-append-add}
use Rattle.lists.specs.Lists.{sum}
use Rattle.paper.specs.Area.{starts}

pub length-starts : (n : ℕ) (ls : List (List ℕ)) → length (starts n ls) ≡ suc (length ls)
unfolding starts
length-starts n [] = refl
length-starts n (l ∷ ls) = ap suc (length-starts (n + length l) ls)

pub starts_first : (n : ℕ) (ls : List (List ℕ)) → get_or (starts n ls) 0 0 ≡ n
unfolding starts
starts_first n [] = refl
starts_first n (l ∷ ls) = refl

-- a list ends where the next one starts
pub starts-next : (n : ℕ) (ls : List (List ℕ)) (i : ℕ) → i < length ls
    → get_or (starts n ls) (suc i) 0 ≡ get_or (starts n ls) i 0 + length (get_or ls i [])
unfolding starts
starts-next n [] i h = absurd (omega arith)
starts-next n (l ∷ ls) zero h = starts_first (n + length l) ls
starts-next n (l ∷ ls) (suc i) h = starts-next (n + length l) ls i (omega arith)

pub starts-last : (n : ℕ) (ls : List (List ℕ)) → get_or (starts n ls) (length ls) 0 ≡ n + sum (map length ls)
unfolding starts
starts-last n [] = omega arith
starts-last n (l ∷ ls) = omega (arith, starts-last (n + length l) ls)

-- every list stands within the whole
pub starts-room : (n : ℕ) (ls : List (List ℕ)) (i : ℕ) → i < length ls
    → get_or (starts n ls) i 0 + length (get_or ls i []) ≤ n + sum (map length ls)
unfolding starts
starts-room n [] i h = absurd (omega arith)
starts-room n (l ∷ ls) zero h = omega arith
starts-room n (l ∷ ls) (suc i) h = omega (arith, starts-room (n + length l) ls i (omega arith))

-- a list ends where any later one starts, or before
pub starts_later : (n : ℕ) (ls : List (List ℕ)) (i j : ℕ) → i < j → j ≤ length ls
    → get_or (starts n ls) i 0 + length (get_or ls i []) ≤ get_or (starts n ls) j 0
starts_later n ls i zero l h = absurd (omega arith)
starts_later n ls i (suc j) l h = go (dec_lt i j) (starts_later n ls i j)
  where
    last : (i j : ℕ) → i < suc j → (i < j → ⊥) → i ≡ j
    last i j l ge = omega arith

    go : Dec (i < j) → (i < j → j ≤ length ls → get_or (starts n ls) i 0 + length (get_or ls i []) ≤ get_or (starts n ls) j 0)
        → get_or (starts n ls) i 0 + length (get_or ls i []) ≤ get_or (starts n ls) (suc j) 0
    go (yes lt) ih = omega (arith, ih lt (omega arith), starts-next n ls j (omega arith))
    go (no ge) ih = rw (last i j l ge) (omega (arith, starts-next n ls j (omega arith)))

-- element j of list i is read from the start of list i on
get_or-behind : (p : List ℕ) (ls : List (List ℕ)) (n i j : ℕ) → length p ≡ n → i < length ls → j < length (get_or ls i [])
    → get_or (p ++ flatten ls) (get_or (starts n ls) i 0 + j) 0 ≡ get_or (get_or ls i []) j 0
unfolding flatten starts
get_or-behind p [] n i j e h l = absurd (omega arith)
get_or-behind p (x ∷ ls) n zero j e h l =
    ap (λ (k : ℕ). get_or (p ++ (x ++ flatten ls)) (k + j) 0) (sym e) ∙ get_or-append-add p (x ++ flatten ls) j 0
    ∙ get_or-append x (flatten ls) 0 j l
get_or-behind p (x ∷ ls) n (suc i) j e h l =
    ap (λ (m : List ℕ). get_or m (get_or (starts (n + length x) ls) i 0 + j) 0) (sym (append_assoc p x (flatten ls)))
    ∙ get_or-behind (p ++ x) ls (n + length x) i j (omega (arith, length-append p x)) (omega arith) l

pub get_or_flatten : (ls : List (List ℕ)) (i j : ℕ) → i < length ls → j < length (get_or ls i [])
    → get_or (flatten ls) (get_or (starts 0 ls) i 0 + j) 0 ≡ get_or (get_or ls i []) j 0
get_or_flatten ls i j h l = get_or-behind [] ls 0 i j refl h l

-- every place of the whole is a place of one of the lists
pub record Located (n : ℕ) (ls : List (List ℕ)) (x : ℕ) : Type 0 where
  pub which : ℕ
  pub offset : ℕ
  pub known : which < length ls
  pub inside : offset < length (get_or ls which [])
  pub place : n + x ≡ get_or (starts n ls) which 0 + offset

pub located : (n : ℕ) (ls : List (List ℕ)) (x : ℕ) → x < sum (map length ls) → Located n ls x
unfolding starts
located n [] x h = absurd (omega arith)
located n (l ∷ ls) x h = go (dec_lt x (length l)) (λ less. located (n + length l) ls (x - length l) less)
  where
    further : Located (n + length l) ls (x - length l) → (x < length l → ⊥) → Located n (l ∷ ls) x
    further r ge =
        record {
          which = suc r.which;
          offset = r.offset;
          known = omega (arith, r.known);
          inside = r.inside;
          place = omega (arith, r.place);
        }

    go : Dec (x < length l) → (x - length l < sum (map length ls) → Located (n + length l) ls (x - length l)) → Located n (l ∷ ls) x
    go (yes lt) behind = record { which = 0; offset = x; known = omega arith; inside = lt; place = refl }
    go (no ge) behind = further (behind (omega (arith, ge, h))) ge
