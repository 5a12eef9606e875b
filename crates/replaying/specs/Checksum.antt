-- The checksum of all numbers of the file.
-- Rests on nothing.
use Rattle.std.specs.Prelude.{ℕ, ◌+◌, ◌*◌, ◌%◌, List, [], ◌∷◌}

-- each word is added to 257 times what stands before it, modulo a prime
unfoldable pub summed : ℕ → List ℕ → ℕ
summed sum [] = sum
summed sum (w ∷ ws) = summed ((sum * 257 + w) % 4294967291) ws
