-- The map writer's stores, one after the other, are the whole map.
-- Rests on lists' Sections and on words' Turns.
use Prim.Native.Nat.{ℕ, ◌+◌, ◌*◌, ◌/◌, ◌%◌}
use native.Mathlib.Omega.{arith}
use mathlib.Core.Path.{◌≡◌, sym, ap, ◌∙◌}
use mathlib.Core.List.{List, [], ◌∷◌, ◌++◌, append_assoc, append-nil, flat_map}
use lib.ListN.{length, length-append, drop_of_length-le}
use lib.Seq.{sets, sets-eq}
use Rattle.lists.proofs.Sections.{sets-next}
use Rattle.lists.proofs.Upto.{flat_map-append}
use Rattle.paper.specs.Map.{PGT1}
use Rattle.paper.specs.Words.{bytes_from, put_words}
use Rattle.words.proofs.Turns.{length-bytes_from}
use Rattle.recorded.specs.Laid.{map_bytes}

-- a text as long as the bytes takes the place of all of them
whole : (b text : List ℕ) → length text ≡ length b → sets b 0 text ≡ text
whole b text e =
    sets-eq text b 0 (omega arith) ∙ ap (λ (r : List ℕ). text ++ r) (drop_of_length-le b {i = 0 + length text} (omega arith)) ∙ append-nil text

-- what is put where the bytes before it end
after : (b us vs : List ℕ) (at : ℕ) {m : List ℕ} → m ≡ sets b 0 us → length us ≡ at → sets m at vs ≡ sets b 0 (us ++ vs)
after b us vs at {m} e long = let start : at ≡ 0 + at = omega arith in ap (λ (i : ℕ). sets m i vs) start ∙ sets-next b 0 us vs {n = at} e long

bytes-append : (us vs : List ℕ) → bytes_from (us ++ vs) ≡ bytes_from us ++ bytes_from vs
unfolding bytes_from
bytes-append us vs = flat_map-append (λ w. w % 256 ∷ (w / 256 ∷ [])) us vs

-- each field takes its two bytes after what stands already
next_field : (b us : List ℕ) (at w : ℕ) {m m' : List ℕ} → m ≡ sets b 0 (bytes_from us) → 2 * length us ≡ at → m' ≡ sets m at (w % 256 ∷ (w / 256 ∷ []))
    → m' ≡ sets b 0 (bytes_from (us ++ (w ∷ [])))
unfolding bytes_from flat_map
next_field b us at w {m} e long e' =
    e' ∙ after b (bytes_from us) (w % 256 ∷ (w / 256 ∷ [])) at e (length-bytes_from us ∙ long) ∙ ap (sets b 0) (sym (bytes-append us (w ∷ [])))

pub laid : (fields b : List ℕ) (n l : ℕ) {b₁ b₂ b₃ b₄ b₅ b₆ : List ℕ}
    → length fields ≡ 2 * n + 4 * l → length b ≡ 4 * n + 8 * l + 12
    → b₁ ≡ put_words b fields
    → b₂ ≡ sets b₁ (4 * n + 8 * l) ((4 * n + 8 * l) % 256 ∷ ((4 * n + 8 * l) / 256 ∷ []))
    → b₃ ≡ sets b₂ (4 * n + 8 * l + 2) (n % 256 ∷ (n / 256 ∷ []))
    → b₄ ≡ sets b₃ (4 * n + 8 * l + 4) ((8 * l) % 256 ∷ ((8 * l) / 256 ∷ []))
    → b₅ ≡ sets b₄ (4 * n + 8 * l + 6) (l % 256 ∷ (l / 256 ∷ []))
    → b₆ ≡ sets b₅ (4 * n + 8 * l + 8) PGT1
    → b₆ ≡ map_bytes fields n l
unfolding map_bytes put_words
laid fields b n l long room e₁ e₂ e₃ e₄ e₅ e₆ =
    let t = 4 * n + 8 * l in
    let one = fields ++ (t ∷ []) in
    let two = one ++ (n ∷ []) in
    let three = two ++ (8 * l ∷ []) in
    let four = three ++ (l ∷ []) in
    let l₁ : length one ≡ length fields + 1 = length-append fields (t ∷ []) in
    let l₂ : length two ≡ length one + 1 = length-append one (n ∷ []) in
    let l₃ : length three ≡ length two + 1 = length-append two (8 * l ∷ []) in
    let l₄ : length four ≡ length three + 1 = length-append three (l ∷ []) in
    let f₁ = next_field b fields t t e₁ (omega arith) e₂ in
    let f₂ = next_field b one (t + 2) n f₁ (omega arith) e₃ in
    let f₃ = next_field b two (t + 4) (8 * l) f₂ (omega arith) e₄ in
    let f₄ = next_field b three (t + 6) l f₃ (omega arith) e₅ in
    let all = bytes_from four ++ PGT1 in
    let size : length all ≡ length b = length-append (bytes_from four) PGT1 ∙ (omega (arith, length-bytes_from four)) in
    e₆ ∙ after b (bytes_from four) PGT1 (t + 8) f₄ (length-bytes_from four ∙ omega arith)
    ∙ whole b all size
    ∙ ap (λ (ws : List ℕ). bytes_from ws ++ PGT1) (simp append_assoc)
