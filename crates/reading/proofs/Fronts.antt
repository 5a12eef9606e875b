-- What a read put after the front of a room, over plain lists.
-- Rests on nothing.
use Rattle.std.proofs.Common.{◌≡◌, ℕ, ◌+◌, ◌-◌, ◌≤◌, List, ◌++◌, arith, length, take, drop, slice_range, sym, ap, ◌∙◌, le_refl, drop_at, length-take-le}
use Rattle.std.proofs.lemmas.Slice.{take-put_mid_below}
use borrow.Rule.Slice.PartMut.{put_mid, post_of}
use lib.Seq.{take-add, take-append-le}

-- the front and the n bytes after it are the longer front
pub front_more : (at n : ℕ) (xs part : List ℕ) → at ≤ length xs → n ≤ length part
    → take at xs ++ take n part ≡ take (at + n) (put_mid at (length xs - at) xs part)
front_more at n xs part within fits =
    let room : List ℕ = put_mid at (length xs - at) xs part in
    let front : take at room ≡ take at xs = take-put_mid_below _ _ _ _ _ (le_refl _) within in
    let count : (at + n) - at ≡ n = omega arith in
    let there : slice_range room at (at + n) ≡ take n part =
    ap (take ((at + n) - at)) (drop_at (take at xs) (part ++ post_of at (length xs - at) xs) at (length-take-le at xs within))
    ∙ ap (λ m. take m (part ++ post_of at (length xs - at) xs)) count
    ∙ take-append-le n part (post_of at (length xs - at) xs) fits in
    ap (λ l. l ++ take n part) (sym front) ∙ ap (λ l. take at room ++ l) (sym there) ∙ ap (λ m. take at room ++ take m (drop at room)) count
    ∙ sym (take-add at n room)
