-- `toposort::turns::turn` meets its contract: after each link of the front the area is as the state within the turn lays it.
-- Rests on Turning.
use Rattle.std.proofs.Common.{ap, arith, length, ◌<◌, ◌∙◌, ◌≡◌}
use Rattle.paper.specs.Order.{Queue}
use Rattle.order_theory.specs.Queued.{front_at}
use Rattle.toposort.specs.Standing.{laid}
use Rattle.toposort.proofs.Turning.{stands-count, stands, front-inside, front-is, front-known, from, to, from_is, to_is, from-to, inside, linked_on, ready, counted, followed-on, turned, as_long}
use Rattle.toposort.proofs.turns.turn.Goals as goal

pub word_at-v-requires : goal.word_at-v-requires
word_at-v-requires c = front-inside c.requires.standing c.requires.t_lt_joined

pub targets_start-start-requires : goal.targets_start-start-requires
targets_start-start-requires c =
    let is_front : c.word_at-v.result ≡ front_at c.args.b.now c.args.t = c.word_at-v.ensures ∙ front-is c.requires.standing c.requires.t_lt_joined in
    let is_known : c.word_at-v.result < c.args.at.sizes.nodes = front-known c.requires.standing c.requires.t_lt_joined is_front in
    record { outgoing = c.requires.standing.index.linked; v_le_nodes = omega (arith, is_known) }

pub overflow_add-v : goal.overflow_add-v
overflow_add-v c =
    let is_front : c.word_at-v.result ≡ front_at c.args.b.now c.args.t = c.word_at-v.ensures ∙ front-is c.requires.standing c.requires.t_lt_joined in
    let is_known : c.word_at-v.result < c.args.at.sizes.nodes = front-known c.requires.standing c.requires.t_lt_joined is_front in
    omega (arith, is_known, c.requires.standing.index.linked.read.few-nodes)

pub targets_start-end-requires : goal.targets_start-end-requires
targets_start-end-requires c =
    let is_front : c.word_at-v.result ≡ front_at c.args.b.now c.args.t = c.word_at-v.ensures ∙ front-is c.requires.standing c.requires.t_lt_joined in
    let is_known : c.word_at-v.result < c.args.at.sizes.nodes = front-known c.requires.standing c.requires.t_lt_joined is_front in
    record { outgoing = c.requires.standing.index.linked; v_le_nodes = omega (arith, is_known) }

pub loop-i-init : goal.loop-i-init
loop-i-init c =
    let is_front : c.word_at-v.result ≡ front_at c.args.b.now c.args.t = c.word_at-v.ensures ∙ front-is c.requires.standing c.requires.t_lt_joined in
    let is-from : c.targets_start-start.result ≡ from c.requires.standing c.requires.t_lt_joined = from_is c.requires.standing c.requires.t_lt_joined is_front c.targets_start-start.ensures in
    let is-to : c.targets_start-end.result ≡ to c.requires.standing c.requires.t_lt_joined = to_is c.requires.standing c.requires.t_lt_joined is_front c.targets_start-end.ensures in (
      stands-count c.requires.standing c.requires.t_lt_joined c.targets_start-start.result,
      stands c.requires.standing c.requires.t_lt_joined c.targets_start-start.result,
    )

pub target_at-w-requires : goal.target_at-w-requires
target_at-w-requires c =
    let is_front : c.word_at-v.result ≡ front_at c.args.b.now c.args.t = c.word_at-v.ensures ∙ front-is c.requires.standing c.requires.t_lt_joined in
    let is-from : c.targets_start-start.result ≡ from c.requires.standing c.requires.t_lt_joined = from_is c.requires.standing c.requires.t_lt_joined is_front c.targets_start-start.ensures in
    let is-to : c.targets_start-end.result ≡ to c.requires.standing c.requires.t_lt_joined = to_is c.requires.standing c.requires.t_lt_joined is_front c.targets_start-end.ensures in
    record { outgoing = linked_on c.requires.standing c.requires.t_lt_joined is-from is-to (omega arith) c.loop-i-test.true c.loop-i.invariant.1; i_lt_links = inside c.requires.standing c.requires.t_lt_joined is-from is-to (omega arith) c.loop-i-test.true c.loop-i.invariant.1 }

pub follow-grown-requires : goal.follow-grown-requires
follow-grown-requires c =
    let is_front : c.word_at-v.result ≡ front_at c.args.b.now c.args.t = c.word_at-v.ensures ∙ front-is c.requires.standing c.requires.t_lt_joined in
    let is-from : c.targets_start-start.result ≡ from c.requires.standing c.requires.t_lt_joined = from_is c.requires.standing c.requires.t_lt_joined is_front c.targets_start-start.ensures in
    let is-to : c.targets_start-end.result ≡ to c.requires.standing c.requires.t_lt_joined = to_is c.requires.standing c.requires.t_lt_joined is_front c.targets_start-end.ensures in
    ready c.requires.standing c.requires.t_lt_joined is-from is-to (omega arith) c.loop-i-test.true
    c.loop-i.invariant.1 c.loop-i.invariant.0 c.target_at-w.ensures

pub loop-i-preserved : goal.loop-i-preserved
loop-i-preserved c =
    let is_front : c.word_at-v.result ≡ front_at c.args.b.now c.args.t = c.word_at-v.ensures ∙ front-is c.requires.standing c.requires.t_lt_joined in
    let is-from : c.targets_start-start.result ≡ from c.requires.standing c.requires.t_lt_joined = from_is c.requires.standing c.requires.t_lt_joined is_front c.targets_start-start.ensures in
    let is-to : c.targets_start-end.result ≡ to c.requires.standing c.requires.t_lt_joined = to_is c.requires.standing c.requires.t_lt_joined is_front c.targets_start-end.ensures in (
      counted c.requires.standing c.requires.t_lt_joined is-from is-to (omega arith) c.loop-i-test.true c.loop-i.invariant.1
          c.loop-i.invariant.0 c.target_at-w.ensures c.follow-grown.ensures.0,
      followed-on c.requires.standing c.requires.t_lt_joined is-from is-to (omega arith) c.loop-i-test.true c.loop-i.invariant.1
          c.loop-i.invariant.0 c.target_at-w.ensures c.follow-grown.ensures.1,
    )

pub shape_of-area : goal.shape_of-area
shape_of-area c =
    let is_front : c.word_at-v.result ≡ front_at c.args.b.now c.args.t = c.word_at-v.ensures ∙ front-is c.requires.standing c.requires.t_lt_joined in
    let is-from : c.targets_start-start.result ≡ from c.requires.standing c.requires.t_lt_joined = from_is c.requires.standing c.requires.t_lt_joined is_front c.targets_start-start.ensures in
    let is-to : c.targets_start-end.result ≡ to c.requires.standing c.requires.t_lt_joined = to_is c.requires.standing c.requires.t_lt_joined is_front c.targets_start-end.ensures in
    as_long c.requires.standing c.requires.t_lt_joined is-from is-to (omega arith) (omega (arith, from-to c.requires.standing c.requires.t_lt_joined, is-from, is-to)) c.loop-i.invariant.1

pub returns : goal.returns
returns c =
    let is_front : c.word_at-v.result ≡ front_at c.args.b.now c.args.t = c.word_at-v.ensures ∙ front-is c.requires.standing c.requires.t_lt_joined in
    let is-from : c.targets_start-start.result ≡ from c.requires.standing c.requires.t_lt_joined = from_is c.requires.standing c.requires.t_lt_joined is_front c.targets_start-start.ensures in
    let is-to : c.targets_start-end.result ≡ to c.requires.standing c.requires.t_lt_joined = to_is c.requires.standing c.requires.t_lt_joined is_front c.targets_start-end.ensures in
    let done = turned c.requires.standing c.requires.t_lt_joined is-from is-to (omega arith) (omega (arith, from-to c.requires.standing c.requires.t_lt_joined, is-from, is-to)) c.loop-i-test.false in (
      c.loop-i.invariant.0 ∙ ap (λ (q : Queue). length q.joined) done,
      c.loop-i.invariant.1 ∙ ap (laid c.args.b.now c.args.area.now c.args.at c.args.links) done,
    )
