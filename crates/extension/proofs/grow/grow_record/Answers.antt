-- `extension::grow::grow_record` meets its contract: each return is one of 01's cases, below, above or inside.
-- Rests on Growing.
use Rattle.std.proofs.Common.{List, ap, get_or, not, ℕ, ◌*◌, ◌+◌, ◌≡◌}
use Rattle.lookup.specs.Line.{positions_on}
use Rattle.extension.proofs.Growing.{high-here, below_not, below_next, above_not, above-next, inside}
use Rattle.extension.proofs.grow.grow_record.Goals as goal

-- ---- below
pub returns-then-not-comes_next : goal.returns-then-not-comes_next
returns-then-not-comes_next c =
    let along : List ℕ = positions_on c.args.nodes.now c.args.positions.now in
    let line_read : c.from-line.result ≡ get_or c.args.room.now (3 * c.args.i) 0 = c.from-line.ensures in
    let lowest-read : c.word_at-lowest.result ≡ get_or c.args.room.now (3 * c.args.i + 1) 0 = c.word_at-lowest.ensures in
    let highest-read : c.word_at-highest.result ≡ get_or c.args.room.now (3 * c.args.i + 2) 0 = c.word_at-highest.ensures in
    below_not along c.args.room.now c.args.i c.args.pos line_read lowest-read highest-read c.requires.growing c.if-pos-lowest.true c.comes_next.ensures (ap not c.if-not-comes_next.true)

pub returns-then-pos-lowest : goal.returns-then-pos-lowest
returns-then-pos-lowest c =
    let along : List ℕ = positions_on c.args.nodes.now c.args.positions.now in
    let line_read : c.from-line.result ≡ get_or c.args.room.now (3 * c.args.i) 0 = c.from-line.ensures in
    let lowest-read : c.word_at-lowest.result ≡ get_or c.args.room.now (3 * c.args.i + 1) 0 = c.word_at-lowest.ensures in
    let highest-read : c.word_at-highest.result ≡ get_or c.args.room.now (3 * c.args.i + 2) 0 = c.word_at-highest.ensures in
    below_next along c.args.room.now c.args.i c.args.pos line_read lowest-read highest-read c.requires.growing c.if-pos-lowest.true c.comes_next.ensures (ap not c.if-not-comes_next.false) c.put_record.ensures

-- ---- above
pub comes_next-requires-then-highest-pos-clause-positions_value : goal.comes_next-requires-then-highest-pos-clause-positions_value
comes_next-requires-then-highest-pos-clause-positions_value c =
    let along : List ℕ = positions_on c.args.nodes.now c.args.positions.now in
    let line_read : c.from-line.result ≡ get_or c.args.room.now (3 * c.args.i) 0 = c.from-line.ensures in
    let lowest-read : c.word_at-lowest.result ≡ get_or c.args.room.now (3 * c.args.i + 1) 0 = c.word_at-lowest.ensures in
    let highest-read : c.word_at-highest.result ≡ get_or c.args.room.now (3 * c.args.i + 2) 0 = c.word_at-highest.ensures in
    high-here along c.args.room.now c.args.i c.args.pos line_read lowest-read highest-read c.requires.growing

pub returns-then-not-comes_next-2 : goal.returns-then-not-comes_next-2
returns-then-not-comes_next-2 c =
    let along : List ℕ = positions_on c.args.nodes.now c.args.positions.now in
    let line_read : c.from-line.result ≡ get_or c.args.room.now (3 * c.args.i) 0 = c.from-line.ensures in
    let lowest-read : c.word_at-lowest.result ≡ get_or c.args.room.now (3 * c.args.i + 1) 0 = c.word_at-lowest.ensures in
    let highest-read : c.word_at-highest.result ≡ get_or c.args.room.now (3 * c.args.i + 2) 0 = c.word_at-highest.ensures in
    above_not along c.args.room.now c.args.i c.args.pos line_read lowest-read highest-read c.if-pos-lowest.false c.if-highest-pos.true c.comes_next-then-highest-pos.ensures (ap not c.if-not-comes_next-2.true)

pub returns-then-highest-pos : goal.returns-then-highest-pos
returns-then-highest-pos c =
    let along : List ℕ = positions_on c.args.nodes.now c.args.positions.now in
    let line_read : c.from-line.result ≡ get_or c.args.room.now (3 * c.args.i) 0 = c.from-line.ensures in
    let lowest-read : c.word_at-lowest.result ≡ get_or c.args.room.now (3 * c.args.i + 1) 0 = c.word_at-lowest.ensures in
    let highest-read : c.word_at-highest.result ≡ get_or c.args.room.now (3 * c.args.i + 2) 0 = c.word_at-highest.ensures in
    above-next along c.args.room.now c.args.i c.args.pos line_read lowest-read highest-read c.if-pos-lowest.false c.if-highest-pos.true c.comes_next-then-highest-pos.ensures (ap not c.if-not-comes_next-2.false) c.put_record-then-highest-pos.ensures

-- ---- inside
pub returns : goal.returns
returns c =
    let along : List ℕ = positions_on c.args.nodes.now c.args.positions.now in
    let line_read : c.from-line.result ≡ get_or c.args.room.now (3 * c.args.i) 0 = c.from-line.ensures in
    let lowest-read : c.word_at-lowest.result ≡ get_or c.args.room.now (3 * c.args.i + 1) 0 = c.word_at-lowest.ensures in
    let highest-read : c.word_at-highest.result ≡ get_or c.args.room.now (3 * c.args.i + 2) 0 = c.word_at-highest.ensures in
    inside along c.args.room.now c.args.i c.args.pos line_read lowest-read highest-read c.if-pos-lowest.false c.if-highest-pos.false
