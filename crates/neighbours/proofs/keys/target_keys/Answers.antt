-- `neighbours::keys::target_keys` meets its contract: after k links the first k keys stand.
-- Rests on Writing.
use Rattle.std.proofs.Common.{arith, length, ◌+◌, ◌<◌, ◌∙◌, ◌≡◌}
use Rattle.paper.specs.Map.{target_port}
use Rattle.order_theory.proofs.Refusals.{sound}
use Rattle.neighbours.proofs.Writing.{target-known, target_below, first-inside, first-stands, one_more, target_key}
use Rattle.neighbours.proofs.keys.target_keys.Goals as goal

pub overflow_add-at : goal.overflow_add-at
overflow_add-at c =
    let is_known : c.link_to-v.result < c.args.sizes.nodes = omega (
      arith,
      c.link_to-v.ensures,
      target-known c.requires.read (sound _ c.requires.links) c.loop-k-test.true,
    ) in
    let at_first : c.args.at.firsts + c.link_to-v.result < length c.loop-k.area = first-inside c.requires (target_port c.args.b.now) c.loop-k-test.true c.loop-k.invariant is_known in
    omega arith

pub offset_bounds-area-at : goal.offset_bounds-area-at
offset_bounds-area-at c =
    let is_known : c.link_to-v.result < c.args.sizes.nodes = omega (
      arith,
      c.link_to-v.ensures,
      target-known c.requires.read (sound _ c.requires.links) c.loop-k-test.true,
    ) in
    let at_first : c.args.at.firsts + c.link_to-v.result < length c.loop-k.area = first-inside c.requires (target_port c.args.b.now) c.loop-k-test.true c.loop-k.invariant is_known in
    omega arith

pub bounds-area-at : goal.bounds-area-at
bounds-area-at c =
    let is_known : c.link_to-v.result < c.args.sizes.nodes = omega (
      arith,
      c.link_to-v.ensures,
      target-known c.requires.read (sound _ c.requires.links) c.loop-k-test.true,
    ) in
    first-inside c.requires (target_port c.args.b.now) c.loop-k-test.true c.loop-k.invariant is_known

pub overflow_add-key : goal.overflow_add-key
overflow_add-key c =
    let is_known : c.link_to-v.result < c.args.sizes.nodes = omega (
      arith,
      c.link_to-v.ensures,
      target-known c.requires.read (sound _ c.requires.links) c.loop-k-test.true,
    ) in
    let is_key : c.from.result + c.link_in.result ≡ target_port c.args.b.now c.loop-k.k = target_key c.args.b.now c.loop-k.k c.link_to-v.ensures
    (c.from.ensures ∙ first-stands c.requires (target_port c.args.b.now) c.loop-k-test.true c.loop-k.invariant is_known) c.link_in.ensures in
    let small : target_port c.args.b.now c.loop-k.k < 4096 = omega (arith, target_below c.requires.read (sound _ c.requires.links) c.loop-k-test.true, c.requires.read.few-ports) in
    omega (arith, is_key, small)

pub overflow_cast-area : goal.overflow_cast-area
overflow_cast-area c =
    let is_known : c.link_to-v.result < c.args.sizes.nodes = omega (
      arith,
      c.link_to-v.ensures,
      target-known c.requires.read (sound _ c.requires.links) c.loop-k-test.true,
    ) in
    let is_key : c.from.result + c.link_in.result ≡ target_port c.args.b.now c.loop-k.k = target_key c.args.b.now c.loop-k.k c.link_to-v.ensures
    (c.from.ensures ∙ first-stands c.requires (target_port c.args.b.now) c.loop-k-test.true c.loop-k.invariant is_known) c.link_in.ensures in
    let small : target_port c.args.b.now c.loop-k.k < 4096 = omega (arith, target_below c.requires.read (sound _ c.requires.links) c.loop-k-test.true, c.requires.read.few-ports) in
    omega (arith, is_key, small)

pub loop-k-preserved : goal.loop-k-preserved
loop-k-preserved c =
    let is_known : c.link_to-v.result < c.args.sizes.nodes = omega (
      arith,
      c.link_to-v.ensures,
      target-known c.requires.read (sound _ c.requires.links) c.loop-k-test.true,
    ) in
    let is_key : c.from.result + c.link_in.result ≡ target_port c.args.b.now c.loop-k.k = target_key c.args.b.now c.loop-k.k c.link_to-v.ensures
    (c.from.ensures ∙ first-stands c.requires (target_port c.args.b.now) c.loop-k-test.true c.loop-k.invariant is_known) c.link_in.ensures in
    one_more c.requires (target_port c.args.b.now) c.loop-k-test.true c.loop-k.invariant is_key
