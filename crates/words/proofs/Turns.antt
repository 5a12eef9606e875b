-- A turn of each loop over plain lists: what stands after i turns, with one store more, is what stands after i + 1.
-- Rests on lists.Sections, lists.Upto and paper's words.
use Prim.Native.Nat.{ℕ, suc, ◌+◌, ◌*◌, ◌/◌, ◌%◌, ◌≤◌, ◌<◌}
use native.Mathlib.Nat.{zero-add}
use native.Mathlib.Numerals.{add-one}
use native.Mathlib.Omega.{arith}
use mathlib.Core.Path.{◌≡◌, refl, sym, ap, ◌∙◌}
use mathlib.Core.Logic.{inl, inr}
use mathlib.Core.List.{List, [], ◌∷◌, ◌++◌, append_assoc, map, flat_map, map-append}
use lib.ListN.{length, get_or, take, drop, set, replicate, length-replicate, length-map}
use lib.Seq.{sets, sets-eq, drop-drop, take-suc, length-take-le}
use borrow.Rule.Slice.PartMut.{put_mid}
use Rattle.lists.specs.Lists.{upto}
use Rattle.lists.proofs.Sections.{Disjoint, Apart, part, length_part, get_or-sets-out, part-suc, sets-next}
use Rattle.paper.specs.Map.{word}
use Rattle.paper.specs.Words.{words_from, bytes_from, put_words}
use Rattle.lists.proofs.Upto.{get_or-table, length_from, upto-suc, flat_map-append}

-- ---- filling and copying

-- a section lent as a slice of its own that comes back as vs
pub put_back : (area : List ℕ) (at k : ℕ) (vs : List ℕ) {ys : List ℕ} → ys ≡ vs → k ≡ length vs → at + length vs ≤ length area
    → put_mid at k area ys ≡ sets area at vs
put_back area at k vs e long fits =
    ap (λ (m : List ℕ). take at area ++ (m ++ drop k (drop at area))) e
    ∙ ap (λ (m : List ℕ). take at area ++ (vs ++ m)) (drop-drop k at area ∙ ap (λ (n : ℕ). drop (at + n) area) long)
    ∙ sym (append_assoc (take at area) vs (drop (at + length vs) area))
    ∙ sym (sets-eq vs area at fits)

pub filled : (area : List ℕ) (at n v : ℕ) {k : ℕ} {ys : List ℕ} → k ≡ n → at + n ≤ length area → ys ≡ replicate (length (part area at k)) v
    → put_mid at k area ys ≡ sets area at (replicate n v)
filled area at n v {k} few fits e =
    put_back area at k (replicate n v)
    (e ∙ ap (λ (m : ℕ). replicate m v) (length_part area at k (omega arith) ∙ few)) (omega (arith, length-replicate n v)) (omega (arith, length-replicate n v))

module _ (area₀ : List ℕ) (src dst n : ℕ) (within : src + n ≤ length area₀) (apart : Disjoint src n dst n) where
  -- the word that comes next is not written over
  source-stands : (i : ℕ) → i < n → get_or (sets area₀ dst (part area₀ src i)) (src + i) 0 ≡ get_or area₀ (src + i) 0
  source-stands i h = get_or-sets-out area₀ dst (part area₀ src i) (src + i) 0 (side apart)
    where
      long : length (part area₀ src i) ≡ i
      long = length_part area₀ src i (omega arith)

      side : Disjoint src n dst n → Apart (src + i) dst (length (part area₀ src i))
      side (inl below) = inl (omega arith)
      side (inr above) = inr (omega (arith, long))

  pub copy_again : (i : ℕ) {area : List ℕ} → i < n → area ≡ sets area₀ dst (part area₀ src i)
      → set area (dst + i) (get_or area (src + i) 0) ≡ sets area₀ dst (part area₀ src (i + 1))
  copy_again i {area} h e =
      ap (set area (dst + i)) (ap (λ (l : List ℕ). get_or l (src + i) 0) e ∙ source-stands i h)
      ∙ sets-next area₀ dst (part area₀ src i) (get_or area₀ (src + i) 0 ∷ []) e (length_part area₀ src i (omega arith))
      ∙ ap (sets area₀ dst) (sym (part-suc area₀ src i 0 (omega arith)) ∙ ap (part area₀ src) (sym (add-one i)))

-- ---- bytes to words

-- the first i words of the bytes
abbrev pub first_words : List ℕ → ℕ → List ℕ
first_words bytes i = map (λ j. word bytes (2 * j)) (upto i)

length_first_words : (bytes : List ℕ) (i : ℕ) → length (first_words bytes i) ≡ i
length_first_words bytes i = length-map (upto i) (λ j. word bytes (2 * j)) ∙ length_from 0 i

pub length-words_from : (bytes : List ℕ) → length (words_from bytes) ≡ length bytes / 2
unfolding words_from
length-words_from bytes = length_first_words bytes (length bytes / 2)

-- word i of the bytes
pub entry-word : (bytes : List ℕ) (i : ℕ) → i < length bytes / 2 → get_or (words_from bytes) i 0 ≡ word bytes (2 * i)
unfolding words_from
entry-word bytes i h = get_or-table (λ j. word bytes (2 * j)) (length bytes / 2) i 0 h

first_words_snoc : (bytes : List ℕ) (i : ℕ) → first_words bytes (suc i) ≡ first_words bytes i ++ (word bytes (2 * i) ∷ [])
first_words_snoc bytes i = ap (map (λ j. word bytes (2 * j))) (upto-suc i) ∙ map-append (λ j. word bytes (2 * j)) (upto i) (i ∷ [])

pub words_again : (bytes words₀ : List ℕ) (i : ℕ) {words : List ℕ} {w : ℕ} → words ≡ sets words₀ 0 (first_words bytes i) → w ≡ word bytes (2 * i)
    → set words i w ≡ sets words₀ 0 (first_words bytes (i + 1))
words_again bytes words₀ i {words} e f =
    ap (set words i) f
    ∙ ap (λ (k : ℕ). set words k (word bytes (2 * i))) (sym (zero-add i))
    ∙ sets-next words₀ 0 (first_words bytes i) (word bytes (2 * i) ∷ []) e (length_first_words bytes i)
    ∙ ap (sets words₀ 0) (sym (first_words_snoc bytes i) ∙ ap (first_words bytes) (sym (add-one i)))

-- ---- words to bytes

-- a word's two bytes
abbrev two : ℕ → List ℕ
two w = w % 256 ∷ w / 256 ∷ []

pub length-bytes_from : (ws : List ℕ) → length (bytes_from ws) ≡ 2 * length ws
unfolding bytes_from flat_map
length-bytes_from [] = refl
length-bytes_from (w ∷ ws) = ap (λ (n : ℕ). suc (suc n)) (length-bytes_from ws) ∙ omega arith

bytes_from_snoc : (ws : List ℕ) (w : ℕ) → bytes_from (ws ++ (w ∷ [])) ≡ bytes_from ws ++ two w
unfolding bytes_from flat_map
bytes_from_snoc ws w = flat_map-append two ws (w ∷ [])

pub put_again : (bytes₀ words : List ℕ) (i : ℕ) {bytes : List ℕ} → i < length words → bytes ≡ put_words bytes₀ (take i words)
    → sets bytes (2 * i) (two (get_or words i 0)) ≡ put_words bytes₀ (take (i + 1) words)
unfolding put_words
put_again bytes₀ words i {bytes} h e =
    ap (λ (k : ℕ). sets bytes k (two (get_or words i 0))) (sym (zero-add (2 * i)))
    ∙ sets-next bytes₀ 0 (bytes_from (take i words)) (two (get_or words i 0)) e long
    ∙ ap (sets bytes₀ 0)
    (sym (bytes_from_snoc (take i words) (get_or words i 0)) ∙ ap bytes_from (sym (take-suc words i 0 h) ∙ ap (λ (k : ℕ). take k words) (sym (add-one i))))
  where
    long : length (bytes_from (take i words)) ≡ 2 * i
    long = omega (arith, length-bytes_from (take i words), length-take-le i words (omega arith))
