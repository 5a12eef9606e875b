use Rattle.std.proofs.Common.{arith}
use Rattle.replaying.proofs.Reading.{few}
use Rattle.replaying.proofs.turns.replay_line.Goals as goal

pub slice_bounds-replay_words-end : goal.slice_bounds-replay_words-end
slice_bounds-replay_words-end c = omega (arith, few c.read_list.new.list c.read_list.ensures.within c.in-Some.is)
