use Rattle.std.proofs.Common.{rules, subst}
use Rattle.std.proofs.KnownBytes.{Consumes-trans}
use Rattle.std.specs.Io.KnownBytes.{Consumes}
use Rattle.reading.proofs.Fronts.{front_more}
use Rattle.reading.proofs.read_full.Goals as goal

pub loop-at-preserved : goal.loop-at-preserved
loop-at-preserved g c =
    let (within, read) = c.loop-at.invariant in (
      search rules,
      subst (Consumes _ _) (front_more _ _ _ _ within c.in_ok-count.ensures.bound.0) (Consumes-trans _ _ _ _ _ read c.in_ok-count.ensures.bytes.0),
    )
