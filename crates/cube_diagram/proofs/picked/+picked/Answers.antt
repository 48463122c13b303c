use Rattle.std.proofs.Common.{ap, refl, ◌∙◌, Some, arith}
use Rattle.cube_diagram.specs.declared.table.Node.TheVariants.{Split}
use Rattle.cube_diagram.specs.Nodes.{NodeBelow}
use Rattle.hdr_bits.proofs.ListLemmas.{extends_then}
use Rattle.cube_diagram.proofs.CombineLemmas.{parts_of_split, later_grows}
use Rattle.cube_diagram.proofs.ImageLemmas.{picked_nothing, picked_value, picked_other, picked_step, image_later, value_same, value_other, with_picked}
use Rattle.cube_diagram.proofs.picked.+picked.Goals as goal

pub returns-then-v-value-clause-picked : goal.returns-then-v-value-clause-picked
returns-then-v-value-clause-picked t c =
    picked_value c.args.tables.now.table.nodes.items c.args.id c.args.value c.in-Value.v c.requires.sound.reduced (c.node_at.ensures ∙ ap Some c.in-Value.is) (value_same c.in-Value.v c.args.value c.if-v-value.true)

pub picked-requires : goal.picked-requires
picked-requires t c =
    let b : NodeBelow c.args.id (Split c.in-Split.bit c.in-Split.low c.in-Split.high) = c.requires.sound.reduced.below c.args.id _ (c.node_at.ensures ∙ ap Some c.in-Split.is) in
    let b0 = b.0 in
    let l = c.requires.id in
    (omega (arith, b0, c.decreases), (c.requires.sound, omega (arith, b0, l)))

pub picked-requires-in-Split : goal.picked-requires-in-Split
picked-requires-in-Split t c =
    let n = c.args.tables.now.table.nodes.items in
    let p = parts_of_split n c.in-Split.bit c.in-Split.bit c.args.id c.in-Split.low c.in-Split.high c.requires.sound.reduced refl (c.node_at.ensures ∙ ap Some c.in-Split.is) in
    let b : NodeBelow c.args.id (Split c.in-Split.bit c.in-Split.low c.in-Split.high) = c.requires.sound.reduced.below c.args.id _ (c.node_at.ensures ∙ ap Some c.in-Split.is) in
    let b1 = b.1 in
    let q = later_grows n c.picked.new.tables.table.nodes.items c.in-Split.bit c.in-Split.high c.in_ok-a-in-Split.ensures.grows p.high_later in
    (omega (arith, b1, c.decreases), (c.in_ok-a-in-Split.ensures.sound, q.below))

pub split-requires-clause-low : goal.split-requires-clause-low
split-requires-clause-low t c =
    let n = c.args.tables.now.table.nodes.items in
    let d1 = c.picked.new.tables.table.nodes.items in
    let d2 = c.picked-in-Split.new.tables.table.nodes.items in
    let k = c.in-Split.bit in
    let p = parts_of_split n k k c.args.id c.in-Split.low c.in-Split.high c.requires.sound.reduced refl (c.node_at.ensures ∙ ap Some c.in-Split.is) in
    let e = c.in_ok-a-in-Split.ensures in
    later_grows d1 d2 k c.in_ok-a-in-Split.a c.in_ok-b-in-Split.ensures.grows (image_later n d1 k c.in-Split.low c.in_ok-a-in-Split.a p.low_later e.grows e.picked.below e.picked.order)

pub split-requires-clause-high : goal.split-requires-clause-high
split-requires-clause-high t c =
    let n = c.args.tables.now.table.nodes.items in
    let d1 = c.picked.new.tables.table.nodes.items in
    let d2 = c.picked-in-Split.new.tables.table.nodes.items in
    let k = c.in-Split.bit in
    let p = parts_of_split n k k c.args.id c.in-Split.low c.in-Split.high c.requires.sound.reduced refl (c.node_at.ensures ∙ ap Some c.in-Split.is) in
    let e = c.in_ok-b-in-Split.ensures in
    image_later n d2 k c.in-Split.high c.in_ok-b-in-Split.b p.high_later (extends_then n d1 d2 c.in_ok-a-in-Split.ensures.grows e.grows) e.picked.below e.picked.order

pub returns-in-Nothing-clause-picked : goal.returns-in-Nothing-clause-picked
returns-in-Nothing-clause-picked t c =
    picked_nothing c.args.tables.now.table.nodes.items c.args.id c.args.value c.requires.sound.reduced (c.node_at.ensures ∙ ap Some c.in-Nothing.is)

pub returns-else-v-value-clause-picked : goal.returns-else-v-value-clause-picked
returns-else-v-value-clause-picked t c =
    picked_other c.args.tables.now.table.nodes.items c.args.id c.args.value c.in-Value.v c.requires.sound.reduced (c.node_at.ensures ∙ ap Some c.in-Value.is) (value_other c.in-Value.v c.args.value c.if-v-value.false)

pub returns-in_ok-result-in-Split-clause-picked : goal.returns-in_ok-result-in-Split-clause-picked
returns-in_ok-result-in-Split-clause-picked t c =
    let d0 = c.args.tables.now.table.nodes.items in
    let d1 = c.picked.new.tables.table.nodes.items in
    let d2 = c.picked-in-Split.new.tables.table.nodes.items in
    let d3 = c.split.new.tables.table.nodes.items in
    let e = c.node_at.ensures ∙ ap Some c.in-Split.is in
    let a = c.in_ok-a-in-Split in
    let b = c.in_ok-b-in-Split in
    let r = c.in_ok-result-in-Split in
    picked_step d0 d1 d2 d3 c.args.id c.args.value c.in-Split.bit c.in-Split.low c.in-Split.high a.a b.b r.result e a.ensures.grows b.ensures.grows r.ensures.grows a.ensures.picked b.ensures.picked r.ensures.by

pub returns-in_ok-result-in-Split-clause-sound : goal.returns-in_ok-result-in-Split-clause-sound
returns-in_ok-result-in-Split-clause-sound t c =
    let d0 = c.args.tables.now.table.nodes.items in
    let d1 = c.picked.new.tables.table.nodes.items in
    let d2 = c.picked-in-Split.new.tables.table.nodes.items in
    let d3 = c.split.new.tables.table.nodes.items in
    let e = c.node_at.ensures ∙ ap Some c.in-Split.is in
    let a = c.in_ok-a-in-Split in
    let b = c.in_ok-b-in-Split in
    let r = c.in_ok-result-in-Split in
    with_picked c.split.new.tables c.remember.new.self r.ensures.sound (record { first = c.args.id; second = c.args.value; result = r.result }) (picked_step d0 d1 d2 d3 c.args.id c.args.value c.in-Split.bit c.in-Split.low c.in-Split.high a.a b.b r.result e a.ensures.grows b.ensures.grows r.ensures.grows a.ensures.picked b.ensures.picked r.ensures.by) c.remember.ensures

pub returns-in_err-b-in-Split-clause-grows : goal.returns-in_err-b-in-Split-clause-grows
returns-in_err-b-in-Split-clause-grows t c = extends_then _ _ _ c.in_ok-a-in-Split.ensures.grows c.in_err-b-in-Split.ensures.grows

pub returns-in_err-result-in-Split-clause-grows : goal.returns-in_err-result-in-Split-clause-grows
returns-in_err-result-in-Split-clause-grows t c = extends_then _ _ _ (extends_then _ _ _ c.in_ok-a-in-Split.ensures.grows c.in_ok-b-in-Split.ensures.grows) c.in_err-result-in-Split.ensures.grows

pub returns-in_ok-result-in-Split-clause-grows : goal.returns-in_ok-result-in-Split-clause-grows
returns-in_ok-result-in-Split-clause-grows t c = extends_then _ _ _ (extends_then _ _ _ c.in_ok-a-in-Split.ensures.grows c.in_ok-b-in-Split.ensures.grows) c.in_ok-result-in-Split.ensures.grows
