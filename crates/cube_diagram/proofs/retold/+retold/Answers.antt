use Rattle.std.proofs.Common.{ap, sym, refl, ◌∙◌, Some, arith, nat_eq}
use Rattle.indexmap.specs.IndexMap.{get}
use Rattle.hdr_bits.proofs.ListLemmas.{extends_then}
use Rattle.cube_diagram.specs.declared.table.Node.TheVariants.{Split}
use Rattle.cube_diagram.specs.Nodes.{NodeBelow}
use Rattle.cube_diagram.proofs.CombineLemmas.{parts_of_split, later_grows}
use Rattle.cube_diagram.proofs.ImageLemmas.{image_later}
use Rattle.cube_diagram.proofs.RetoldLemmas.{retold_nothing, retold_value, retold_step, retold_inserted, all_retold_grows}
use Rattle.cube_diagram.proofs.retold.+retold.Goals as goal

pub returns-in-Some-clause-retold : goal.returns-in-Some-clause-retold
returns-in-Some-clause-retold t c = c.requires.known.each c.args.id c.in-Some.r.now (sym c.in-Some.ensures.value)

pub retold-requires : goal.retold-requires
retold-requires t c =
    let b : NodeBelow c.args.id (Split c.in-Split.bit c.in-Split.low c.in-Split.high) = c.requires.sound.reduced.below c.args.id _ (c.node_at.ensures ∙ ap Some c.in-Split.is) in
    let b0 = b.0 in
    let l = c.requires.id in
    (omega (arith, b0, c.decreases), (c.requires.sound, (omega (arith, b0, l), c.requires.known)))

pub retold-requires-in-Split : goal.retold-requires-in-Split
retold-requires-in-Split t c =
    let n = c.args.tables.now.table.nodes.items in
    let k = c.in-Split.bit in
    let p = parts_of_split n k k c.args.id c.in-Split.low c.in-Split.high c.requires.sound.reduced refl (c.node_at.ensures ∙ ap Some c.in-Split.is) in
    let b : NodeBelow c.args.id (Split k c.in-Split.low c.in-Split.high) = c.requires.sound.reduced.below c.args.id _ (c.node_at.ensures ∙ ap Some c.in-Split.is) in
    let b1 = b.1 in
    let q = later_grows n c.retold.new.tables.table.nodes.items k c.in-Split.high c.in_ok-a-in-Split.ensures.grows p.high_later in
    (omega (arith, b1, c.decreases), (c.in_ok-a-in-Split.ensures.sound, (q.below, c.in_ok-a-in-Split.ensures.known)))

pub split-requires-clause-low : goal.split-requires-clause-low
split-requires-clause-low t c =
    let n = c.args.tables.now.table.nodes.items in
    let d1 = c.retold.new.tables.table.nodes.items in
    let d2 = c.retold-in-Split.new.tables.table.nodes.items in
    let k = c.in-Split.bit in
    let p = parts_of_split n k k c.args.id c.in-Split.low c.in-Split.high c.requires.sound.reduced refl (c.node_at.ensures ∙ ap Some c.in-Split.is) in
    let e = c.in_ok-a-in-Split.ensures in
    later_grows d1 d2 k c.in_ok-a-in-Split.a c.in_ok-b-in-Split.ensures.grows (image_later n d1 k c.in-Split.low c.in_ok-a-in-Split.a p.low_later e.grows e.retold.below e.retold.order)

pub split-requires-clause-high : goal.split-requires-clause-high
split-requires-clause-high t c =
    let n = c.args.tables.now.table.nodes.items in
    let d1 = c.retold.new.tables.table.nodes.items in
    let d2 = c.retold-in-Split.new.tables.table.nodes.items in
    let k = c.in-Split.bit in
    let p = parts_of_split n k k c.args.id c.in-Split.low c.in-Split.high c.requires.sound.reduced refl (c.node_at.ensures ∙ ap Some c.in-Split.is) in
    let e = c.in_ok-b-in-Split.ensures in
    image_later n d2 k c.in-Split.high c.in_ok-b-in-Split.b p.high_later (extends_then n d1 d2 c.in_ok-a-in-Split.ensures.grows e.grows) e.retold.below e.retold.order

pub returns-in-Nothing-clause-retold : goal.returns-in-Nothing-clause-retold
returns-in-Nothing-clause-retold t c =
    retold_nothing c.args.tables.now.table.nodes.items c.args.told.now c.args.id c.requires.sound.reduced (c.node_at.ensures ∙ ap Some c.in-Nothing.is)

pub returns-in_ok-r-in-Value-clause-retold : goal.returns-in_ok-r-in-Value-clause-retold
returns-in_ok-r-in-Value-clause-retold t c =
    retold_value c.args.tables.now.table.nodes.items c.constant.new.tables.table.nodes.items c.args.told.now c.args.id c.in-Value.value c.in_ok-r-in-Value.r c.in_ok-r-in-Value.ensures.grows (c.node_at.ensures ∙ ap Some c.in-Value.is) (rw (← c.told_of.ensures) c.in_ok-r-in-Value.ensures.constant)

pub returns-in_ok-r-in-Value-clause-known : goal.returns-in_ok-r-in-Value-clause-known
returns-in_ok-r-in-Value-clause-known t c =
    all_retold_grows c.args.tables.now.table.nodes.items c.constant.new.tables.table.nodes.items c.args.told.now (get nat_eq c.args.known.now) c.in_ok-r-in-Value.ensures.grows c.requires.known

pub returns-in_ok-insert-in-Split-clause-retold : goal.returns-in_ok-insert-in-Split-clause-retold
returns-in_ok-insert-in-Split-clause-retold t c =
    let d0 = c.args.tables.now.table.nodes.items in
    let d1 = c.retold.new.tables.table.nodes.items in
    let d2 = c.retold-in-Split.new.tables.table.nodes.items in
    let d3 = c.split.new.tables.table.nodes.items in
    let x = c.in-Split in
    let a = c.in_ok-a-in-Split in
    let b = c.in_ok-b-in-Split in
    let r = c.in_ok-result-in-Split in
    retold_step d0 d1 d2 d3 c.args.told.now c.args.id x.bit x.low x.high a.a b.b r.result (c.node_at.ensures ∙ ap Some x.is) a.ensures.grows b.ensures.grows r.ensures.grows a.ensures.retold b.ensures.retold r.ensures.by

pub returns-in_ok-insert-in-Split-clause-known : goal.returns-in_ok-insert-in-Split-clause-known
returns-in_ok-insert-in-Split-clause-known t c =
    let d0 = c.args.tables.now.table.nodes.items in
    let d1 = c.retold.new.tables.table.nodes.items in
    let d2 = c.retold-in-Split.new.tables.table.nodes.items in
    let d3 = c.split.new.tables.table.nodes.items in
    let x = c.in-Split in
    let a = c.in_ok-a-in-Split in
    let b = c.in_ok-b-in-Split in
    let r = c.in_ok-result-in-Split in
    let w = retold_step d0 d1 d2 d3 c.args.told.now c.args.id x.bit x.low x.high a.a b.b r.result (c.node_at.ensures ∙ ap Some x.is) a.ensures.grows b.ensures.grows r.ensures.grows a.ensures.retold b.ensures.retold r.ensures.by in
    retold_inserted d3 c.args.told.now (get nat_eq c.retold-in-Split.new.known) (get nat_eq c.insert.new.self) c.args.id r.result c.in_ok-insert-in-Split.ensures.updates.0 (all_retold_grows d2 d3 c.args.told.now (get nat_eq c.retold-in-Split.new.known) r.ensures.grows b.ensures.known) w

pub returns-in_err-b-in-Split-clause-grows : goal.returns-in_err-b-in-Split-clause-grows
returns-in_err-b-in-Split-clause-grows t c = extends_then _ _ _ c.in_ok-a-in-Split.ensures.grows c.in_err-b-in-Split.ensures.grows

pub returns-in_err-result-in-Split-clause-grows : goal.returns-in_err-result-in-Split-clause-grows
returns-in_err-result-in-Split-clause-grows t c = extends_then _ _ _ (extends_then _ _ _ c.in_ok-a-in-Split.ensures.grows c.in_ok-b-in-Split.ensures.grows) c.in_err-result-in-Split.ensures.grows

pub returns-in_err-insert-in-Split-clause-grows : goal.returns-in_err-insert-in-Split-clause-grows
returns-in_err-insert-in-Split-clause-grows t c = extends_then _ _ _ (extends_then _ _ _ c.in_ok-a-in-Split.ensures.grows c.in_ok-b-in-Split.ensures.grows) c.in_ok-result-in-Split.ensures.grows

pub returns-in_ok-insert-in-Split-clause-grows : goal.returns-in_ok-insert-in-Split-clause-grows
returns-in_ok-insert-in-Split-clause-grows t c = extends_then _ _ _ (extends_then _ _ _ c.in_ok-a-in-Split.ensures.grows c.in_ok-b-in-Split.ensures.grows) c.in_ok-result-in-Split.ensures.grows
