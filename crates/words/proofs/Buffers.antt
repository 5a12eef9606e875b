-- A result in a lent buffer of bytes: reading the words, writing the result over the first of them and putting all back is to put the
-- result alone; the first words are those of the first bytes; and what is put is read.
-- Rests on words (RoundTrip, Turns).
use Prim.Native.Nat.{ℕ, zero, suc, ◌+◌, ◌*◌, ◌/◌, ◌%◌, ◌≤◌}
use native.Mathlib.Nat.{zero-add}
use native.Mathlib.Omega.{arith}
use mathlib.Core.Path.{◌≡◌, refl, sym, ap, ◌∙◌}
use mathlib.Core.List.{List, [], ◌∷◌, ◌++◌, flat_map}
use lib.ListN.{length, take, drop, set}
use lib.Seq.{sets, sets-eq, length-sets, take-nil, take_all}
use Rattle.lists.proofs.Sections.{part-sets_in}
use Rattle.paper.specs.Words.{words_from, bytes_from, put_words}
use Rattle.words.proofs.RoundTrip.{Below, words_from_cons, words_and_back, read_and_put}
use Rattle.words.proofs.Turns.{length-words_from, length-bytes_from}

-- what is stored after the first element
sets_cons : (x : ℕ) (xs : List ℕ) (at : ℕ) (vs : List ℕ) → sets (x ∷ xs) (suc at) vs ≡ x ∷ sets xs at vs
sets_cons x xs at [] = refl
sets_cons x xs at (v ∷ vs) = sets_cons x (set xs at v) (suc at) vs

-- words put two bytes at a time
put_words_cons : (a b : ℕ) (bs : List ℕ) (w : ℕ) (ws : List ℕ) → put_words (a ∷ (b ∷ bs)) (w ∷ ws) ≡ w % 256 ∷ (w / 256 ∷ put_words bs ws)
unfolding put_words bytes_from flat_map
put_words_cons a b bs w ws =
    sets_cons (w % 256) (w / 256 ∷ bs) 1 (bytes_from ws) ∙ ap (λ (r : List ℕ). w % 256 ∷ r) (sets_cons (w / 256) bs 0 (bytes_from ws))

-- words that go on as the bytes' own words do are put as they are alone
pub put_longer : (bs xs : List ℕ) → Below 256 bs → 2 * length xs ≤ length bs → put_words bs (xs ++ drop (length xs) (words_from bs)) ≡ put_words bs xs
unfolding put_words bytes_from flat_map
put_longer bs [] h fits = read_and_put bs h
put_longer [] (x ∷ xs) h fits = absurd (omega arith)
put_longer (b ∷ []) (x ∷ xs) h fits = absurd (omega arith)
put_longer (a ∷ (b ∷ bs)) (x ∷ xs) h fits =
    ap (λ (ws : List ℕ). put_words (a ∷ (b ∷ bs)) (x ∷ (xs ++ drop (suc (length xs)) ws))) (words_from_cons a b bs)
    ∙ put_words_cons a b bs x (xs ++ drop (length xs) (words_from bs))
    ∙ ap (λ (r : List ℕ). x % 256 ∷ (x / 256 ∷ r)) (put_longer bs xs (λ i. h (suc (suc i))) (omega arith))
    ∙ sym (put_words_cons a b bs x xs)

-- a result written over the first words
pub put_result : (bs xs : List ℕ) → Below 256 bs → 2 * length xs ≤ length bs → put_words bs (sets (words_from bs) 0 xs) ≡ put_words bs xs
put_result bs xs h fits =
    ap (put_words bs)
    (sets-eq xs (words_from bs) 0 (omega (arith, length-words_from bs)) ∙ ap (λ (k : ℕ). xs ++ drop k (words_from bs)) (zero-add (length xs)))
    ∙ put_longer bs xs h fits

two_on : (k : ℕ) → 2 * suc k ≡ suc (suc (2 * k))
two_on k = omega arith

-- the first words
pub take_words : (k : ℕ) (bs : List ℕ) → take k (words_from bs) ≡ words_from (take (2 * k) bs)
unfolding words_from
take_words zero bs = refl
take_words (suc k) [] = ap words_from (sym (take-nil (2 * suc k)))
take_words (suc k) (b ∷ []) = ap (λ (n : ℕ). words_from (take n (b ∷ []))) (sym (two_on k))
take_words (suc k) (a ∷ (b ∷ bs)) =
    ap (take (suc k)) (words_from_cons a b bs) ∙ ap (λ (r : List ℕ). (a + 256 * b) ∷ r) (take_words k bs) ∙ sym (words_from_cons a b (take (2 * k) bs))
    ∙ ap (λ (n : ℕ). words_from (take n (a ∷ (b ∷ bs)))) (sym (two_on k))

-- what is put is read, where it is as many words as stand there
pub put_and_read : (bs ws : List ℕ) → length ws ≡ length bs / 2 → words_from (put_words bs ws) ≡ ws
unfolding put_words
put_and_read bs ws e =
    sym (take_all (length ws) (words_from (put_words bs ws)) (omega (arith, length-words_from (put_words bs ws), length-sets bs 0 (bytes_from ws), e)))
    ∙ take_words (length ws) (put_words bs ws)
    ∙ ap (λ (n : ℕ). words_from (take n (put_words bs ws))) (sym (length-bytes_from ws))
    ∙ ap words_from (part-sets_in bs 0 (bytes_from ws) 0 (omega (arith, length-bytes_from ws, e)))
    ∙ words_and_back ws
