use Rattle.std.proofs.Common.{ap, sym, refl, ◌∙◌, Some, arith, nat_eq}
use Rattle.indexmap.specs.IndexMap.{get}
use Rattle.hdr_bits.proofs.ListLemmas.{extends_none, extends_then}
use Rattle.cube_diagram.specs.declared.table.Node.TheVariants.{Split}
use Rattle.cube_diagram.specs.Nodes.{NodeBelow}
use Rattle.cube_diagram.proofs.CombineLemmas.{parts_of_split, later_grows}
use Rattle.cube_diagram.proofs.ImageLemmas.{image_later}
use Rattle.cube_diagram.proofs.NodeLemmas.{tested_read}
use Rattle.cube_diagram.proofs.DestinationLemmas.{destinations_nothing, destinations_all, destinations_flat, destinations_step, destinations_inserted, all_destinations_grow}
use Rattle.cube_diagram.proofs.destinations.+by_destination.Goals as goal

pub returns-then-id-eq-NOTHING-clause-told : goal.returns-then-id-eq-NOTHING-clause-told
returns-then-id-eq-NOTHING-clause-told t c = destinations_nothing c.args.tables.now.table.nodes.items c.args.id c.requires.sound.reduced c.if-id-eq-NOTHING.true

pub returns-in_default : goal.returns-in_default
returns-in_default t c =
    record {
      told = destinations_flat c.args.tables.now.table.nodes.items c.args.id c.node_at.result c.requires.sound.reduced c.node_at.ensures c.in_default.not-Split c.if-id-eq-NOTHING.false;
      known = c.requires.known;
      grows = extends_none c.args.tables.now.table.nodes.items;
      sound = c.requires.sound;
    }

pub returns-then-bit-ge-DESTINATION-clause-told : goal.returns-then-bit-ge-DESTINATION-clause-told
returns-then-bit-ge-DESTINATION-clause-told t c =
    let n = c.args.tables.now.table.nodes.items in
    let x = tested_read n c.args.id (Split c.in-Split.bit c.in-Split.low c.in-Split.high) (c.node_at.ensures ∙ ap Some c.in-Split.is) in
    let g = c.if-bit-ge-DESTINATION.true in
    destinations_all n c.args.id c.requires.sound.reduced c.requires.id c.if-id-eq-NOTHING.false (omega (arith, x, g))

pub returns-in-Some-clause-told : goal.returns-in-Some-clause-told
returns-in-Some-clause-told t c = c.requires.known.each c.args.id c.in-Some.r.now (sym c.in-Some.ensures.value)

pub by_destination-requires : goal.by_destination-requires
by_destination-requires t c =
    let b : NodeBelow c.args.id (Split c.in-Split.bit c.in-Split.low c.in-Split.high) = c.requires.sound.reduced.below c.args.id _ (c.node_at.ensures ∙ ap Some c.in-Split.is) in
    let b0 = b.0 in
    let l = c.requires.id in
    (omega (arith, b0, c.decreases), (c.requires.sound, (omega (arith, b0, l), c.requires.known)))

pub by_destination-requires-2 : goal.by_destination-requires-2
by_destination-requires-2 t c =
    let n = c.args.tables.now.table.nodes.items in
    let k = c.in-Split.bit in
    let p = parts_of_split n k k c.args.id c.in-Split.low c.in-Split.high c.requires.sound.reduced refl (c.node_at.ensures ∙ ap Some c.in-Split.is) in
    let b : NodeBelow c.args.id (Split k c.in-Split.low c.in-Split.high) = c.requires.sound.reduced.below c.args.id _ (c.node_at.ensures ∙ ap Some c.in-Split.is) in
    let b1 = b.1 in
    let q = later_grows n c.by_destination.new.tables.table.nodes.items k c.in-Split.high c.in_ok-a.ensures.grows p.high_later in
    (omega (arith, b1, c.decreases), (c.in_ok-a.ensures.sound, (q.below, c.in_ok-a.ensures.known)))

pub split-requires-clause-low : goal.split-requires-clause-low
split-requires-clause-low t c =
    let n = c.args.tables.now.table.nodes.items in
    let d1 = c.by_destination.new.tables.table.nodes.items in
    let d2 = c.by_destination-2.new.tables.table.nodes.items in
    let k = c.in-Split.bit in
    let p = parts_of_split n k k c.args.id c.in-Split.low c.in-Split.high c.requires.sound.reduced refl (c.node_at.ensures ∙ ap Some c.in-Split.is) in
    let e = c.in_ok-a.ensures in
    later_grows d1 d2 k c.in_ok-a.a c.in_ok-b.ensures.grows (image_later n d1 k c.in-Split.low c.in_ok-a.a p.low_later e.grows e.told.below e.told.order)

pub split-requires-clause-high : goal.split-requires-clause-high
split-requires-clause-high t c =
    let n = c.args.tables.now.table.nodes.items in
    let d1 = c.by_destination.new.tables.table.nodes.items in
    let d2 = c.by_destination-2.new.tables.table.nodes.items in
    let k = c.in-Split.bit in
    let p = parts_of_split n k k c.args.id c.in-Split.low c.in-Split.high c.requires.sound.reduced refl (c.node_at.ensures ∙ ap Some c.in-Split.is) in
    let e = c.in_ok-b.ensures in
    image_later n d2 k c.in-Split.high c.in_ok-b.b p.high_later (extends_then n d1 d2 c.in_ok-a.ensures.grows e.grows) e.told.below e.told.order

pub returns-clause-told : goal.returns-clause-told
returns-clause-told t c =
    let d0 = c.args.tables.now.table.nodes.items in
    let d1 = c.by_destination.new.tables.table.nodes.items in
    let d2 = c.by_destination-2.new.tables.table.nodes.items in
    let d3 = c.split.new.tables.table.nodes.items in
    let x = c.in-Split in
    let a = c.in_ok-a in
    let b = c.in_ok-b in
    let r = c.in_ok-result in
    let g = c.if-bit-ge-DESTINATION.false in
    destinations_step d0 d1 d2 d3 c.args.id x.bit x.low x.high a.a b.b r.result (omega (arith, g)) (c.node_at.ensures ∙ ap Some x.is) a.ensures.grows b.ensures.grows r.ensures.grows a.ensures.told b.ensures.told r.ensures.by

pub returns-clause-known : goal.returns-clause-known
returns-clause-known t c =
    let d0 = c.args.tables.now.table.nodes.items in
    let d1 = c.by_destination.new.tables.table.nodes.items in
    let d2 = c.by_destination-2.new.tables.table.nodes.items in
    let d3 = c.split.new.tables.table.nodes.items in
    let x = c.in-Split in
    let a = c.in_ok-a in
    let b = c.in_ok-b in
    let r = c.in_ok-result in
    let g = c.if-bit-ge-DESTINATION.false in
    let w = destinations_step d0 d1 d2 d3 c.args.id x.bit x.low x.high a.a b.b r.result (omega (arith, g)) (c.node_at.ensures ∙ ap Some x.is) a.ensures.grows b.ensures.grows r.ensures.grows a.ensures.told b.ensures.told r.ensures.by in
    destinations_inserted d3 (get nat_eq c.by_destination-2.new.known) (get nat_eq c.insert.new.self) c.args.id r.result c.in_ok-insert.ensures.updates.0 (all_destinations_grow d2 d3 (get nat_eq c.by_destination-2.new.known) r.ensures.grows b.ensures.known) w

pub returns-clause-grows : goal.returns-clause-grows
returns-clause-grows t c =
    let d0 = c.args.tables.now.table.nodes.items in
    let d1 = c.by_destination.new.tables.table.nodes.items in
    let d2 = c.by_destination-2.new.tables.table.nodes.items in
    let d3 = c.split.new.tables.table.nodes.items in
    extends_then d0 d1 d3 c.in_ok-a.ensures.grows (extends_then d1 d2 d3 c.in_ok-b.ensures.grows c.in_ok-result.ensures.grows)

pub returns-in_err-b-clause-grows : goal.returns-in_err-b-clause-grows
returns-in_err-b-clause-grows t c = extends_then _ _ _ c.in_ok-a.ensures.grows c.in_err-b.ensures.grows

pub returns-in_err-result-clause-grows : goal.returns-in_err-result-clause-grows
returns-in_err-result-clause-grows t c = extends_then _ _ _ (extends_then _ _ _ c.in_ok-a.ensures.grows c.in_ok-b.ensures.grows) c.in_err-result.ensures.grows

pub returns-in_err-insert-clause-grows : goal.returns-in_err-insert-clause-grows
returns-in_err-insert-clause-grows t c = extends_then _ _ _ (extends_then _ _ _ c.in_ok-a.ensures.grows c.in_ok-b.ensures.grows) c.in_ok-result.ensures.grows
