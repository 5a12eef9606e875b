use Rattle.asking.specs.Says.{says_of}
use Rattle.asking.proofs.Lines.{turn-first, turn_more, turns_done}
use Rattle.asking.proofs.Written.{written_none, written_more, written_all}
use Rattle.asking.proofs.answer_lists.Goals as goal

pub loop-at-init : goal.loop-at-init
loop-at-init g c = (turn-first c.requires.standing, written_none (says_of c.args.program) c.args.map.now c.args.input.now _)

pub loop-at-preserved : goal.loop-at-preserved
loop-at-preserved g c =
    let turned = c.next_list-turn.ensures in (
      turn_more c.loop-at.invariant.0 turned,
      written_more (says_of c.args.program) c.args.map.now c.args.input.now _ _ _ c.loop-at.invariant.1 turned c.in_ok-write_all.ensures.bytes,
    )

pub returns-clause-turns : goal.returns-clause-turns
returns-clause-turns g c = turns_done c.loop-at.invariant.0 c.loop-at-test.false

pub returns-clause-written : goal.returns-clause-written
returns-clause-written g c =
    written_all (says_of c.args.program) c.args.map.now c.args.input.now _ _ c.loop-at.invariant.1
    (turns_done c.loop-at.invariant.0 c.loop-at-test.false)
