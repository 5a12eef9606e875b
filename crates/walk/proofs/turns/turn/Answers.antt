-- `walk::turns::turn` meets its contract: a law for each way that a turn ends.
-- Rests on Turning.
use Rattle.walk.proofs.Turning.{asked, leading, taken-inside, taken-known, position-inside, turn_skips, turn-stops, turn_goes}
use Rattle.walk.proofs.turns.turn.Goals as goal

pub word_at-v-requires : goal.word_at-v-requires
word_at-v-requires c = taken-inside c.requires

pub word_at-requires : goal.word_at-requires
word_at-requires c = position-inside c.requires c.word_at-v.ensures

pub returns-then-top-word_at : goal.returns-then-top-word_at
returns-then-top-word_at c = turn_skips c.requires c.word_at-v.ensures c.word_at.ensures c.if-top-word_at.true

pub stands_below-requires : goal.stands_below-requires
stands_below-requires c = asked c.requires.usable c.requires.fits (taken-known c.requires c.word_at-v.ensures)

pub returns-then-stands_below : goal.returns-then-stands_below
returns-then-stands_below c = turn-stops c.requires c.word_at-v.ensures c.word_at.ensures c.if-top-word_at.false
    c.stands_below.ensures c.if-stands_below.true

pub join_neighbours-grown-requires : goal.join_neighbours-grown-requires
join_neighbours-grown-requires c = record { leading = leading c.requires; queued = c.requires.queued; v_lt_nodes = taken-known c.requires c.word_at-v.ensures }

pub returns : goal.returns
returns c = turn_goes c.requires c.word_at-v.ensures c.word_at.ensures c.if-top-word_at.false
    c.stands_below.ensures c.if-stands_below.false c.join_neighbours-grown.ensures
