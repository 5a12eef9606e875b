-- Where a part of lent words stands: a reference is known by its place, and not only by the words that it shows.
-- Rests on the kit's references (a block and an offset in bytes).
use Rattle.std.specs.Prelude.{ℕ, ◌+◌, ◌*◌, ◌≡◌, List}
use Rattle.std.specs.Borrow.{Bor}

-- r starts at word i of s: in the same block, and two bytes further for each word before
abbrev pub StartsAt : Bor (List ℕ) → Bor (List ℕ) → ℕ → Type 0
StartsAt r s i = (r.ref_ptr.0 ≡ s.ref_ptr.0) × (r.ref_ptr.1 ≡ s.ref_ptr.1 + 2 * i)
