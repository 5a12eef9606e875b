-- `topo_checker::near::place_reached` meets its contract: the target of the link, and the target's place.
-- Rests on Nearby.
use Rattle.std.proofs.Common.{ap, get_or, ℕ, ◌+◌, ◌∙◌}
use Rattle.topo_checker.specs.Near.{place_reached}
use Rattle.topo_checker.proofs.Nearby.{place-fits}
use Rattle.topo_checker.proofs.near.place_reached.Goals as goal

pub word_at-requires : goal.word_at-requires
word_at-requires c = place-fits c.requires.laid c.target_at-v.ensures c.requires.x_lt_links

pub returns : goal.returns
unfolding place_reached
returns c = c.word_at.ensures ∙ ap (λ (w : ℕ). get_or c.args.area.now (c.args.room.places + w) 0) c.target_at-v.ensures
