-- `line_tables::nodes::take_node` meets its contract: a node has its lines and its position.
-- Rests on Reading and Placing.
use Rattle.std.proofs.Common.{arith, length, refl, ◌+◌, ◌-◌, ◌≡◌}
use Rattle.line_tables.proofs.Placing.{takes_all, long_after, node_seated}
use Rattle.line_tables.proofs.Taking.{node-low}
use Rattle.line_tables.proofs.Reading.{node-read, listing, list_read, spanned, spanned-next, first_in, first-last, incoming-is}
use Rattle.line_tables.specs.Frontier.{node_at}
use Rattle.counting_sort.specs.Sorted.{below}
use Rattle.paper.specs.Map.{first_port, in_links}
use Rattle.line_tables.specs.Layout.{in_keys, start_of}
use Rattle.line_tables.proofs.nodes.take_node.Goals as goal

pub links_start-first-requires : goal.links_start-first-requires
links_start-first-requires c =
    let is-node : c.word_at-v.result ≡ node_at c.args.b.now c.args.t = node-read c.requires.0.spread c.requires.1 c.word_at-v.ensures in
    spanned c.requires.0.spread c.requires.1 is-node

pub links_start-requires : goal.links_start-requires
links_start-requires c =
    let is-node : c.word_at-v.result ≡ node_at c.args.b.now c.args.t = node-read c.requires.0.spread c.requires.1 c.word_at-v.ensures in
    spanned-next c.requires.0.spread c.requires.1 is-node

pub overflow_sub-incoming : goal.overflow_sub-incoming
overflow_sub-incoming c =
    let is-node : c.word_at-v.result ≡ node_at c.args.b.now c.args.t = node-read c.requires.0.spread c.requires.1 c.word_at-v.ensures in
    omega (arith, first-last c.requires.0.spread c.requires.1 is-node c.links_start-first.ensures c.links_start.ensures)

pub list_start-list-requires : goal.list_start-list-requires
list_start-list-requires c = listing c.requires.0.spread c.requires.1

pub take_lines-position-requires : goal.take_lines-position-requires
take_lines-position-requires c =
    let is-node : c.word_at-v.result ≡ node_at c.args.b.now c.args.t = node-read c.requires.0.spread c.requires.1 c.word_at-v.ensures in
    let starts-in : c.links_start-first.result ≡ below (in_keys c.args.b.now) (first_port c.args.b.now (node_at c.args.b.now c.args.t)) = first_in c.requires.0.spread c.requires.1 is-node c.links_start-first.ensures in
    let so-many : c.links_start.result - c.links_start-first.result ≡ length (in_links c.args.b.now (node_at c.args.b.now c.args.t)) = incoming-is c.requires.0.spread c.requires.1 is-node c.links_start-first.ensures c.links_start.ensures in
    let lists_at_lem : c.list_start-list.result ≡ c.args.at.lines + start_of c.args.b.now (node_at c.args.b.now c.args.t) = list_read c.requires.0.spread c.requires.1 c.list_start-list.ensures in
    takes_all c.requires.0 c.requires.1 starts-in lists_at_lem so-many

pub bounds-area-at : goal.bounds-area-at
bounds-area-at c =
    let is-node : c.word_at-v.result ≡ node_at c.args.b.now c.args.t = node-read c.requires.0.spread c.requires.1 c.word_at-v.ensures in
    let starts-in : c.links_start-first.result ≡ below (in_keys c.args.b.now) (first_port c.args.b.now (node_at c.args.b.now c.args.t)) = first_in c.requires.0.spread c.requires.1 is-node c.links_start-first.ensures in
    let so-many : c.links_start.result - c.links_start-first.result ≡ length (in_links c.args.b.now (node_at c.args.b.now c.args.t)) = incoming-is c.requires.0.spread c.requires.1 is-node c.links_start-first.ensures c.links_start.ensures in
    let lists_at_lem : c.list_start-list.result ≡ c.args.at.lines + start_of c.args.b.now (node_at c.args.b.now c.args.t) = list_read c.requires.0.spread c.requires.1 c.list_start-list.ensures in
    omega (
      arith,
      node-low c.requires.0.spread c.requires.1,
      is-node,
      c.requires.0.spread.ready.long,
      long_after c.requires.0 c.requires.1 starts-in lists_at_lem so-many c.take_lines-position.ensures.1,
    )

pub returns : goal.returns
returns c =
    let is-node : c.word_at-v.result ≡ node_at c.args.b.now c.args.t = node-read c.requires.0.spread c.requires.1 c.word_at-v.ensures in
    let starts-in : c.links_start-first.result ≡ below (in_keys c.args.b.now) (first_port c.args.b.now (node_at c.args.b.now c.args.t)) = first_in c.requires.0.spread c.requires.1 is-node c.links_start-first.ensures in
    let so-many : c.links_start.result - c.links_start-first.result ≡ length (in_links c.args.b.now (node_at c.args.b.now c.args.t)) = incoming-is c.requires.0.spread c.requires.1 is-node c.links_start-first.ensures c.links_start.ensures in
    let lists_at_lem : c.list_start-list.result ≡ c.args.at.lines + start_of c.args.b.now (node_at c.args.b.now c.args.t) = list_read c.requires.0.spread c.requires.1 c.list_start-list.ensures in
    let left = node_seated c.requires.0 c.requires.1 starts-in lists_at_lem so-many is-node c.take_lines-position.ensures.0 c.take_lines-position.ensures.1 refl in
    (so-many, left.0, left.1)
