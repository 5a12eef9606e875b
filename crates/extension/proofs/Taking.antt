-- The words of records that stand in a room are the room's first words.
-- Rests on lists.Upto.
use Prim.Native.Nat.{ℕ, zero, suc, ◌+◌, ◌*◌, ◌≤◌, ◌<◌}
use native.Mathlib.Omega.{arith}
use mathlib.Core.Path.{◌≡◌, refl, sym, ap, ap₂, ◌∙◌}
use mathlib.Core.List.{List, [], ◌∷◌, ◌++◌, flat_map, append_assoc}
use lib.ListN.{length, get_or, take}
use lib.Seq.{take-suc, length-take-le}
use Rattle.lists.proofs.Upto.{table-suc, flat_map-append}
use Rattle.paper.specs.Intervals.{Interval}
use Rattle.paper.specs.Records.{record_at, records_in, words_of_records}

-- three words more
three_more : (room : List ℕ) (k : ℕ) → k + 2 < length room
    → take (k + 3) room ≡ take k room ++ (get_or room k 0 ∷ (get_or room (k + 1) 0 ∷ (get_or room (k + 2) 0 ∷ [])))
three_more room k h =
    ap (λ (j : ℕ). take j room) (sucs k) ∙ take-suc room (suc (suc k)) 0 (omega arith)
    ∙ ap (λ (ws : List ℕ). ws ++ (get_or room (suc (suc k)) 0 ∷ []))
    (take-suc room (suc k) 0 (omega arith) ∙ ap (λ (ws : List ℕ). ws ++ (get_or room (suc k) 0 ∷ [])) (take-suc room k 0 (omega arith))
    ∙ append_assoc (take k room) (get_or room k 0 ∷ []) (get_or room (suc k) 0 ∷ []))
    ∙ append_assoc (take k room) (get_or room k 0 ∷ (get_or room (suc k) 0 ∷ [])) (get_or room (suc (suc k)) 0 ∷ [])
    ∙ ap₂ (λ (s t : ℕ). take k room ++ (get_or room k 0 ∷ (get_or room s 0 ∷ (get_or room t 0 ∷ [])))) (one k) (two k)
  where
    sucs : (k : ℕ) → k + 3 ≡ suc (suc (suc k))
    sucs k = omega arith

    one : (k : ℕ) → suc k ≡ k + 1
    one k = omega arith

    two : (k : ℕ) → suc (suc k) ≡ k + 2
    two k = omega arith

pub words_taken : (room : List ℕ) (count : ℕ) → 3 * count ≤ length room → words_of_records (records_in room count) ≡ take (3 * count) room
unfolding words_of_records records_in record_at flat_map
words_taken room zero h = refl
words_taken room (suc c) h =
    ap words_of_records (table-suc (record_at room) c)
    ∙ flat_map-append (λ (r : Interval). r.line ∷ (r.lowest ∷ (r.highest ∷ []))) (records_in room c) (record_at room c ∷ [])
    ∙ ap (λ (ws : List ℕ). ws ++ (get_or room (3 * c) 0 ∷ (get_or room (3 * c + 1) 0 ∷ (get_or room (3 * c + 2) 0 ∷ [])))) (words_taken room c (omega arith))
    ∙ sym (three_more room (3 * c) (omega arith)) ∙ ap (λ (j : ℕ). take j room) (thrice c)
  where
    thrice : (c : ℕ) → 3 * c + 3 ≡ 3 * suc c
    thrice c = omega arith

pub taken_words : (room : List ℕ) (count : ℕ) → 3 * count ≤ length room
    → take (length (words_of_records (records_in room count))) room ≡ words_of_records (records_in room count)
taken_words room count h =
    ap (λ (k : ℕ). take k room) (ap length (words_taken room count h) ∙ length-take-le (3 * count) room h) ∙ sym (words_taken room count h)
