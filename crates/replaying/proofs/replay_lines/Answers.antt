use Rattle.std.proofs.Common.{arith, rules}
use Rattle.replaying.proofs.Reading.{line-within}
use Rattle.replaying.proofs.replay_lines.Goals as goal

pub slice_bounds-replay_line-count : goal.slice_bounds-replay_line-count
slice_bounds-replay_line-count g c = let line = line-within c.args.file.now c.loop-at.at (omega arith) c.line_end-end.ensures in omega arith

pub slice_bounds-replay_line-start : goal.slice_bounds-replay_line-start
slice_bounds-replay_line-start g c = let line = line-within c.args.file.now c.loop-at.at (omega arith) c.line_end-end.ensures in omega arith

pub slice_bounds-replay_line-end : goal.slice_bounds-replay_line-end
slice_bounds-replay_line-end g c = let line = line-within c.args.file.now c.loop-at.at (omega arith) c.line_end-end.ensures in omega arith

pub loop-at-smaller : goal.loop-at-smaller
loop-at-smaller g c = let line = line-within c.args.file.now c.loop-at.at (omega arith) c.line_end-end.ensures in omega arith

pub loop-at-preserved : goal.loop-at-preserved
loop-at-preserved g c = let line = line-within c.args.file.now c.loop-at.at (omega arith) c.line_end-end.ensures in search rules
