-- Words to bytes and back, and bytes to words and back: of an odd last byte nothing is read, and nothing is written there.
-- Rests on paper's words and on lists.Sections.
use Prim.Native.Nat.{ℕ, zero, suc, ◌+◌, ◌*◌, ◌/◌, ◌%◌, ◌<◌}
use native.Mathlib.Nat.{mod-add-div}
use native.Mathlib.Omega.{arith}
use mathlib.Core.Path.{◌≡◌, refl, sym, ap, subst, ◌∙◌}
use mathlib.Core.List.{List, [], ◌∷◌, map, flat_map}
use lib.ListN.{length, get_or, take}
use lib.Seq.{sets, take_all}
use Rattle.lists.specs.Lists.{upto}
use Rattle.lists.proofs.Sections.{sets-part}
use Rattle.paper.specs.Map.{word}
use Rattle.paper.specs.Words.{words_from, bytes_from, put_words}
use Rattle.lists.proofs.Upto.{map-from-suc}

-- every number of a list is below n
abbrev pub Below : ℕ → List ℕ → Type 0
Below n xs = (i : ℕ) → get_or xs i 0 < n

-- the words two bytes at a time
pub words_from_cons : (a b : ℕ) (bs : List ℕ) → words_from (a ∷ (b ∷ bs)) ≡ (a + 256 * b) ∷ words_from bs
unfolding words_from word
words_from_cons a b bs =
    ap (λ (n : ℕ). map (λ i. word (a ∷ (b ∷ bs)) (2 * i)) (upto n)) (half (length bs))
    ∙ ap (λ (r : List ℕ). (a + 256 * b) ∷ r)
    (map-from-suc (λ i. word (a ∷ (b ∷ bs)) (2 * i)) (λ i. word bs (2 * i)) further 0 (length bs / 2))
  where
    half : (n : ℕ) → suc (suc n) / 2 ≡ suc (n / 2)
    half n = omega arith

    two_on : (i : ℕ) → 2 * suc i ≡ suc (suc (2 * i))
    two_on i = omega arith

    three_on : (i : ℕ) → 2 * suc i + 1 ≡ suc (suc (2 * i + 1))
    three_on i = omega arith

    further : (i : ℕ) → word (a ∷ (b ∷ bs)) (2 * suc i) ≡ word bs (2 * i)
    further i =
        ap (λ (k : ℕ). get_or (a ∷ (b ∷ bs)) k 0 + 256 * get_or (a ∷ (b ∷ bs)) (2 * suc i + 1) 0) (two_on i)
        ∙ ap (λ (k : ℕ). get_or bs (2 * i) 0 + 256 * get_or (a ∷ (b ∷ bs)) k 0) (three_on i)

-- words to bytes and back
pub words_and_back : (ws : List ℕ) → words_from (bytes_from ws) ≡ ws
unfolding bytes_from flat_map words_from
words_and_back [] = refl
words_and_back (w ∷ ws) =
    words_from_cons (w % 256) (w / 256) (bytes_from ws)
    ∙ ap (λ (x : ℕ). x ∷ words_from (bytes_from ws)) (mod-add-div w 256)
    ∙ ap (λ (r : List ℕ). w ∷ r) (words_and_back ws)

-- bytes to words and back, up to an odd last byte
pub bytes_and_back : (bs : List ℕ) → Below 256 bs → bytes_from (words_from bs) ≡ take (2 * (length bs / 2)) bs
unfolding bytes_from flat_map words_from
bytes_and_back [] h = refl
bytes_and_back (b ∷ []) h = refl
bytes_and_back (a ∷ (b ∷ bs)) h =
    ap bytes_from (words_from_cons a b bs)
    ∙ ap (λ (x : ℕ). x ∷ ((a + 256 * b) / 256 ∷ bytes_from (words_from bs))) (low a b (h 0))
    ∙ ap (λ (x : ℕ). a ∷ (x ∷ bytes_from (words_from bs))) (high a b (h 0))
    ∙ ap (λ (r : List ℕ). a ∷ (b ∷ r)) (bytes_and_back bs (λ i. h (suc (suc i))))
    ∙ ap (λ (n : ℕ). take n (a ∷ (b ∷ bs))) (sym (more (length bs)))
  where
    low : (a b : ℕ) → a < 256 → (a + 256 * b) % 256 ≡ a
    low a b h = omega arith

    high : (a b : ℕ) → a < 256 → (a + 256 * b) / 256 ≡ b
    high a b h = omega arith

    more : (n : ℕ) → 2 * (suc (suc n) / 2) ≡ suc (suc (2 * (n / 2)))
    more n = omega arith

pub even_and_back : (bs : List ℕ) → Below 256 bs → length bs % 2 ≡ 0 → bytes_from (words_from bs) ≡ bs
even_and_back bs h even = bytes_and_back bs h ∙ take_all (2 * (length bs / 2)) bs (omega arith)

-- what is read is written where it stood, and an odd last byte stands
pub read_and_put : (bs : List ℕ) → Below 256 bs → put_words bs (words_from bs) ≡ bs
unfolding put_words
read_and_put bs h = ap (sets bs 0) (bytes_and_back bs h) ∙ sets-part bs 0 (2 * (length bs / 2)) 0 (omega arith)

-- words of 16 bits make bytes of 8, and bytes of 8 words of 16
pub bytes_below : (ws : List ℕ) → Below 65536 ws → Below 256 (bytes_from ws)
unfolding bytes_from flat_map
bytes_below [] h i = omega arith
bytes_below (w ∷ ws) h zero = omega (arith, h 0)
bytes_below (w ∷ ws) h (suc zero) = omega (arith, h 0)
bytes_below (w ∷ ws) h (suc (suc i)) = bytes_below ws (λ i. h (suc i)) i

pub words_below : (bs : List ℕ) → Below 256 bs → Below 65536 (words_from bs)
unfolding words_from
words_below [] h i = omega arith
words_below (b ∷ []) h i = omega arith
words_below (a ∷ (b ∷ bs)) h i =
    subst (Below 65536) (sym (words_from_cons a b bs)) (each (words_below bs (λ i. h (suc (suc i))))) i
  where
    each : Below 65536 (words_from bs) → Below 65536 ((a + 256 * b) ∷ words_from bs)
    each rest zero = omega (arith, h 0, h 1)
    each rest (suc i) = rest i
