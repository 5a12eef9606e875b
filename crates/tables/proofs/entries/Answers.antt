-- A part of the area by its two ends is what lies between them.
-- Rests on Words.
use Rattle.std.proofs.Common.{ap₂, refl, ℕ, ◌+◌, ◌-◌, ◌∙◌}
use lib.Seq.{slice}
use Rattle.tables.specs.Usable.{entries_of}
use Rattle.tables.proofs.Words.{between}
use Rattle.tables.proofs.entries.Goals as goal

pub returns : goal.returns
unfolding entries_of
returns c = between (c.args.at + c.word_at-2.result - (c.args.at + c.word_at.result)) (c.args.at + c.word_at.result) (c.args.at + c.word_at-2.result) c.args.area.now refl
    ∙ ap₂ (λ (f t : ℕ). slice (c.args.at + f) (c.args.at + t) c.args.area.now) c.word_at.ensures c.word_at-2.ensures
