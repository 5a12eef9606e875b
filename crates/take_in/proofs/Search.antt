-- A search from entry to entry: the entries passed are not bad, and the first bad one decides.
-- Rests on lists' First.
use Prim.Native.Nat.{ℕ, ◌+◌, ◌<◌}
use mathlib.Core.Path.{◌≡◌, refl, sym, ap, ◌∙◌}
use mathlib.Core.Bool.{Bool, true, false}
use Rattle.lists.specs.Found.{absent, at, first}
use Rattle.lists.proofs.First.{first_absent, first-is, first_next}

-- none of the first i entries is bad
pub record Clean (bad : ℕ → Bool) (i : ℕ) : Type 0 where
  pub none : first bad i ≡ absent

pub clean_starts : (bad : ℕ → Bool) → Clean bad 0
clean_starts bad = record { none = refl }

module _ {bad : ℕ → Bool} {i : ℕ} (clean : Clean bad i) where
  pub clean_on : bad i ≡ false → Clean bad (i + 1)
  clean_on e = record { none = first_next bad i clean.none e }

  pub bad_at : (size : ℕ) → i < size → bad i ≡ true → at i ≡ first bad size
  bad_at size h e = sym (first-is bad size i (record { known = h; passes = e; fail = first_absent bad i clean.none }))

  pub clean_all : (size : ℕ) → size ≡ i → absent ≡ first bad size
  clean_all size e = sym (ap (first bad) e ∙ clean.none)
