-- One word more in the checksum, and all of them.
-- Rests on Checksum.
use Prim.Native.Nat.{ℕ, ◌+◌, ◌*◌, ◌%◌, ◌≤◌, ◌<◌}
use native.Mathlib.Numerals.{add-one}
use mathlib.Core.Path.{◌≡◌, sym, ap, ◌∙◌}
use mathlib.Core.List.{List}
use lib.ListN.{length, get_or, drop, drop_of_length-le}
use lib.Seq.{drop-cons}
use Rattle.replaying.specs.Checksum.{summed}

pub one_more : (ws : List ℕ) (i sum : ℕ) {w whole : ℕ} → i < length ws → w ≡ get_or ws i 0 → summed sum (drop i ws) ≡ whole
    → summed ((sum * 257 + w) % 4294967291) (drop (i + 1) ws) ≡ whole
unfolding summed
one_more ws i sum more e so_far =
    ap (λ (x : ℕ). summed ((sum * 257 + x) % 4294967291) (drop (i + 1) ws)) e ∙ rw add-one (sym (ap (summed sum) (drop-cons ws i 0 more)) ∙ so_far)

pub all-summed : (ws : List ℕ) (i sum : ℕ) {whole : ℕ} → length ws ≤ i → summed sum (drop i ws) ≡ whole → sum ≡ whole
unfolding summed
all-summed ws i sum past so_far = sym (ap (summed sum) (drop_of_length-le ws past)) ∙ so_far
