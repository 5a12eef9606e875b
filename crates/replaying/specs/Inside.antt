-- A part that lies within so many words.
-- Rests on recorded's parts.
use Rattle.std.specs.Prelude.{ℕ, ◌≤◌, Option, None, Some}
use Rattle.recorded.specs.declared.line_parts.Part.{Part}

unfoldable pub Inside : Option Part → ℕ → Type 0
Inside (Some part) size = (part.from ≤ part.to) × (part.to ≤ size)
Inside None size = Unit {0}
