-- `neighbours::keys::source_keys` meets its contract: after k links the first k keys stand.
-- Rests on Writing.
use Rattle.std.proofs.Common.{arith, length, ◌+◌, ◌<◌, ◌∙◌, ◌≡◌}
use Rattle.paper.specs.Map.{source_port}
use Rattle.order_theory.proofs.Refusals.{sound}
use Rattle.neighbours.proofs.Writing.{source_known, source-below, first-inside, first-stands, one_more, source_key, node-inside, source-start}
use Rattle.neighbours.proofs.keys.source_keys.Goals as goal

pub overflow_add-at : goal.overflow_add-at
overflow_add-at c =
    let is_known : c.link_from-v.result < c.args.sizes.nodes = omega (
      arith,
      c.link_from-v.ensures,
      source_known c.requires.read (sound _ c.requires.links) c.loop-k-test.true,
    ) in
    let at_first : c.args.at.firsts + c.link_from-v.result < length c.loop-k.area = first-inside c.requires (source_port c.args.b.now) c.loop-k-test.true c.loop-k.invariant is_known in
    omega arith

pub offset_bounds-area-at : goal.offset_bounds-area-at
offset_bounds-area-at c =
    let is_known : c.link_from-v.result < c.args.sizes.nodes = omega (
      arith,
      c.link_from-v.ensures,
      source_known c.requires.read (sound _ c.requires.links) c.loop-k-test.true,
    ) in
    let at_first : c.args.at.firsts + c.link_from-v.result < length c.loop-k.area = first-inside c.requires (source_port c.args.b.now) c.loop-k-test.true c.loop-k.invariant is_known in
    omega arith

pub bounds-area-at : goal.bounds-area-at
bounds-area-at c =
    let is_known : c.link_from-v.result < c.args.sizes.nodes = omega (
      arith,
      c.link_from-v.ensures,
      source_known c.requires.read (sound _ c.requires.links) c.loop-k-test.true,
    ) in
    first-inside c.requires (source_port c.args.b.now) c.loop-k-test.true c.loop-k.invariant is_known

pub num_inputs-requires : goal.num_inputs-requires
num_inputs-requires c =
    let is_known : c.link_from-v.result < c.args.sizes.nodes = omega (
      arith,
      c.link_from-v.ensures,
      source_known c.requires.read (sound _ c.requires.links) c.loop-k-test.true,
    ) in
    node-inside c.requires.read (sound _ c.requires.links) c.loop-k-test.true is_known

pub overflow_add-key : goal.overflow_add-key
overflow_add-key c =
    let is_known : c.link_from-v.result < c.args.sizes.nodes = omega (
      arith,
      c.link_from-v.ensures,
      source_known c.requires.read (sound _ c.requires.links) c.loop-k-test.true,
    ) in
    let small : source_port c.args.b.now c.loop-k.k < 4096 = omega (arith, source-below c.requires.read (sound _ c.requires.links) c.loop-k-test.true, c.requires.read.few-ports) in
    omega (
      arith,
      small,
      source-start c.args.b.now c.loop-k.k c.link_from-v.ensures
          (c.from.ensures ∙ first-stands c.requires (source_port c.args.b.now) c.loop-k-test.true c.loop-k.invariant is_known) c.num_inputs.ensures,
    )

pub overflow_add-key-in-loop-k : goal.overflow_add-key-in-loop-k
overflow_add-key-in-loop-k c =
    let is_known : c.link_from-v.result < c.args.sizes.nodes = omega (
      arith,
      c.link_from-v.ensures,
      source_known c.requires.read (sound _ c.requires.links) c.loop-k-test.true,
    ) in
    let is_key : c.from.result + c.num_inputs.result + c.link_out.result ≡ source_port c.args.b.now c.loop-k.k = source_key c.args.b.now c.loop-k.k c.link_from-v.ensures
    (c.from.ensures ∙ first-stands c.requires (source_port c.args.b.now) c.loop-k-test.true c.loop-k.invariant is_known) c.num_inputs.ensures c.link_out.ensures in
    let small : source_port c.args.b.now c.loop-k.k < 4096 = omega (arith, source-below c.requires.read (sound _ c.requires.links) c.loop-k-test.true, c.requires.read.few-ports) in
    omega (arith, is_key, small)

pub overflow_cast-area : goal.overflow_cast-area
overflow_cast-area c =
    let is_known : c.link_from-v.result < c.args.sizes.nodes = omega (
      arith,
      c.link_from-v.ensures,
      source_known c.requires.read (sound _ c.requires.links) c.loop-k-test.true,
    ) in
    let is_key : c.from.result + c.num_inputs.result + c.link_out.result ≡ source_port c.args.b.now c.loop-k.k = source_key c.args.b.now c.loop-k.k c.link_from-v.ensures
    (c.from.ensures ∙ first-stands c.requires (source_port c.args.b.now) c.loop-k-test.true c.loop-k.invariant is_known) c.num_inputs.ensures c.link_out.ensures in
    let small : source_port c.args.b.now c.loop-k.k < 4096 = omega (arith, source-below c.requires.read (sound _ c.requires.links) c.loop-k-test.true, c.requires.read.few-ports) in
    omega (arith, is_key, small)

pub loop-k-preserved : goal.loop-k-preserved
loop-k-preserved c =
    let is_known : c.link_from-v.result < c.args.sizes.nodes = omega (
      arith,
      c.link_from-v.ensures,
      source_known c.requires.read (sound _ c.requires.links) c.loop-k-test.true,
    ) in
    let is_key : c.from.result + c.num_inputs.result + c.link_out.result ≡ source_port c.args.b.now c.loop-k.k = source_key c.args.b.now c.loop-k.k c.link_from-v.ensures
    (c.from.ensures ∙ first-stands c.requires (source_port c.args.b.now) c.loop-k-test.true c.loop-k.invariant is_known) c.num_inputs.ensures c.link_out.ensures in
    one_more c.requires (source_port c.args.b.now) c.loop-k-test.true c.loop-k.invariant is_key
