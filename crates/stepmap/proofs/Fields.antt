-- A link's fields, by the number of nodes that a caller holds: what each accessor of a link returns.
-- Rests on paper's Map.
use Prim.Native.Nat.{ℕ, ◌+◌, ◌*◌, ◌<◌}
use native.Mathlib.Omega.{arith}
use mathlib.Core.List.{List}
use mathlib.Core.Path.{◌≡◌, sym, ap}
use lib.ListN.{get_or}
use mir.Syntax.{w8}
use mir.Val.{Fits}
use Rattle.paper.specs.Map.{N, word, link_at, link_from, link_out, link_to, link_in}

module _ (b : List ℕ) (n k : ℕ) (nodes : N b ≡ n) where
  at : 4 * n + 8 * k ≡ link_at b k
  unfolding link_at
  at = ap (λ (m : ℕ). 4 * m + 8 * k) (sym nodes)

  pub from_field : word b (4 * n + 8 * k) ≡ link_from b k
  unfolding link_from
  from_field = ap (word b) at

  pub out_field : word b (4 * n + 8 * k + 2) ≡ link_out b k
  unfolding link_out
  out_field = ap (λ (p : ℕ). word b (p + 2)) at

  pub to_field : word b (4 * n + 8 * k + 4) ≡ link_to b k
  unfolding link_to
  to_field = ap (λ (p : ℕ). word b (p + 4)) at

  pub in_field : word b (4 * n + 8 * k + 6) ≡ link_in b k
  unfolding link_in
  in_field = ap (λ (p : ℕ). word b (p + 6)) at

-- a field of bytes is below 65536
pub word_below : (b : List ℕ) → ((i : ℕ) → Fits w8 (get_or b i 0)) → (at : ℕ) → word b at < 65536
unfolding word
word_below b bytes at = omega (arith, bytes at, bytes (at + 1))

pub in_below : (b : List ℕ) → ((i : ℕ) → Fits w8 (get_or b i 0)) → (k : ℕ) → link_in b k < 65536
unfolding link_in
in_below b bytes k = word_below b bytes (link_at b k + 6)
