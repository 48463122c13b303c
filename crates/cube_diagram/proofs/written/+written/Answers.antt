use Rattle.std.proofs.Common.{ap, sym, refl, ◌∙◌, Some, arith}
use Rattle.cube_diagram.specs.declared.table.Node.TheVariants.{Split}
use Rattle.cube_diagram.specs.Nodes.{NodeBelow}
use Rattle.indexmap.specs.IndexMap.{get}
use Rattle.std.proofs.Common.{nat_eq}
use Rattle.hdr_bits.proofs.ListLemmas.{extends_none, extends_then}
use Rattle.cube_diagram.proofs.CombineLemmas.{parts_of_split, later_grows}
use Rattle.cube_diagram.proofs.DescentLemmas.{bit_one, bit_zero}
use Rattle.cube_diagram.proofs.ImageLemmas.{written_flat, written_one, written_zero, written_step, written_inserted, all_written_grows, image_later}
use Rattle.cube_diagram.proofs.written.+written.Goals as goal

pub returns-in_default : goal.returns-in_default
returns-in_default t c =
    record {
      written = written_flat c.args.tables.now.table.nodes.items c.args.cube.now c.args.id c.node_at.result c.node_at.ensures c.in_default.not-Split;
      known = c.requires.known;
      grows = extends_none c.args.tables.now.table.nodes.items;
      sound = c.requires.sound;
    }

pub written-requires : goal.written-requires
written-requires t c =
    let b : NodeBelow c.args.id (Split c.in-Split.bit c.in-Split.low c.in-Split.high) = c.requires.sound.reduced.below c.args.id _ (c.node_at.ensures ∙ ap Some c.in-Split.is) in
    let b1 = b.1 in
    let l = c.requires.id in
    (omega (arith, b1, c.decreases), (c.requires.sound, (omega (arith, b1, l), c.requires.known)))

pub returns-then-is_one_at-2-clause-written : goal.returns-then-is_one_at-2-clause-written
returns-then-is_one_at-2-clause-written t c =
    let k = c.args.cube.now in
    let x = c.in-Split in
    written_one c.args.tables.now.table.nodes.items c.written.new.tables.table.nodes.items k c.args.id x.bit x.low x.high c.in_ok-r.r c.requires.sound.reduced (c.node_at.ensures ∙ ap Some x.is) c.in_ok-r.ensures.grows (bit_one k.fixed x.bit c.is_one_at.result c.is_one_at.ensures c.if-is_one_at.true) (bit_one k.bits x.bit c.is_one_at-then-is_one_at.result c.is_one_at-then-is_one_at.ensures c.if-is_one_at-2.true) c.in_ok-r.ensures.written

pub written-requires-then-is_one_at : goal.written-requires-then-is_one_at
written-requires-then-is_one_at t c =
    let b : NodeBelow c.args.id (Split c.in-Split.bit c.in-Split.low c.in-Split.high) = c.requires.sound.reduced.below c.args.id _ (c.node_at.ensures ∙ ap Some c.in-Split.is) in
    let b0 = b.0 in
    let l = c.requires.id in
    (omega (arith, b0, c.decreases), (c.requires.sound, (omega (arith, b0, l), c.requires.known)))

pub returns-then-is_one_at-clause-written : goal.returns-then-is_one_at-clause-written
returns-then-is_one_at-clause-written t c =
    let k = c.args.cube.now in
    let x = c.in-Split in
    written_zero c.args.tables.now.table.nodes.items c.written-then-is_one_at.new.tables.table.nodes.items k c.args.id x.bit x.low x.high c.in_ok-r-2.r c.requires.sound.reduced (c.node_at.ensures ∙ ap Some x.is) c.in_ok-r-2.ensures.grows (bit_one k.fixed x.bit c.is_one_at.result c.is_one_at.ensures c.if-is_one_at.true) (bit_zero k.bits x.bit c.is_one_at-then-is_one_at.result c.is_one_at-then-is_one_at.ensures c.if-is_one_at-2.false) c.in_ok-r-2.ensures.written

pub returns-in-Some-clause-written : goal.returns-in-Some-clause-written
returns-in-Some-clause-written t c = c.requires.known.each c.args.id c.in-Some.r.now (sym c.in-Some.ensures.value)

pub written-requires-2 : goal.written-requires-2
written-requires-2 t c =
    let b : NodeBelow c.args.id (Split c.in-Split.bit c.in-Split.low c.in-Split.high) = c.requires.sound.reduced.below c.args.id _ (c.node_at.ensures ∙ ap Some c.in-Split.is) in
    let b0 = b.0 in
    let l = c.requires.id in
    (omega (arith, b0, c.decreases), (c.requires.sound, (omega (arith, b0, l), c.requires.known)))

pub written-requires-3 : goal.written-requires-3
written-requires-3 t c =
    let n = c.args.tables.now.table.nodes.items in
    let k = c.in-Split.bit in
    let p = parts_of_split n k k c.args.id c.in-Split.low c.in-Split.high c.requires.sound.reduced refl (c.node_at.ensures ∙ ap Some c.in-Split.is) in
    let b : NodeBelow c.args.id (Split k c.in-Split.low c.in-Split.high) = c.requires.sound.reduced.below c.args.id _ (c.node_at.ensures ∙ ap Some c.in-Split.is) in
    let b1 = b.1 in
    let q = later_grows n c.written-2.new.tables.table.nodes.items k c.in-Split.high c.in_ok-a.ensures.grows p.high_later in
    (omega (arith, b1, c.decreases), (c.in_ok-a.ensures.sound, (q.below, c.in_ok-a.ensures.known)))

pub split-requires-clause-low : goal.split-requires-clause-low
split-requires-clause-low t c =
    let n = c.args.tables.now.table.nodes.items in
    let d1 = c.written-2.new.tables.table.nodes.items in
    let d2 = c.written-3.new.tables.table.nodes.items in
    let k = c.in-Split.bit in
    let p = parts_of_split n k k c.args.id c.in-Split.low c.in-Split.high c.requires.sound.reduced refl (c.node_at.ensures ∙ ap Some c.in-Split.is) in
    let e = c.in_ok-a.ensures in
    later_grows d1 d2 k c.in_ok-a.a c.in_ok-b.ensures.grows (image_later n d1 k c.in-Split.low c.in_ok-a.a p.low_later e.grows e.written.below e.written.order)

pub split-requires-clause-high : goal.split-requires-clause-high
split-requires-clause-high t c =
    let n = c.args.tables.now.table.nodes.items in
    let d1 = c.written-2.new.tables.table.nodes.items in
    let d2 = c.written-3.new.tables.table.nodes.items in
    let k = c.in-Split.bit in
    let p = parts_of_split n k k c.args.id c.in-Split.low c.in-Split.high c.requires.sound.reduced refl (c.node_at.ensures ∙ ap Some c.in-Split.is) in
    let e = c.in_ok-b.ensures in
    image_later n d2 k c.in-Split.high c.in_ok-b.b p.high_later (extends_then n d1 d2 c.in_ok-a.ensures.grows e.grows) e.written.below e.written.order

pub returns-clause-written : goal.returns-clause-written
returns-clause-written t c =
    let d0 = c.args.tables.now.table.nodes.items in
    let d1 = c.written-2.new.tables.table.nodes.items in
    let d2 = c.written-3.new.tables.table.nodes.items in
    let d3 = c.split.new.tables.table.nodes.items in
    let k = c.args.cube.now in
    let x = c.in-Split in
    let a = c.in_ok-a in
    let b = c.in_ok-b in
    let r = c.in_ok-result in
    written_step d0 d1 d2 d3 k c.args.id x.bit x.low x.high a.a b.b r.result c.requires.sound.reduced (c.node_at.ensures ∙ ap Some x.is) a.ensures.grows b.ensures.grows r.ensures.grows (bit_zero k.fixed x.bit c.is_one_at.result c.is_one_at.ensures c.if-is_one_at.false) a.ensures.written b.ensures.written r.ensures.by

pub returns-clause-known : goal.returns-clause-known
returns-clause-known t c =
    let d0 = c.args.tables.now.table.nodes.items in
    let d1 = c.written-2.new.tables.table.nodes.items in
    let d2 = c.written-3.new.tables.table.nodes.items in
    let d3 = c.split.new.tables.table.nodes.items in
    let k = c.args.cube.now in
    let x = c.in-Split in
    let a = c.in_ok-a in
    let b = c.in_ok-b in
    let r = c.in_ok-result in
    let w = written_step d0 d1 d2 d3 k c.args.id x.bit x.low x.high a.a b.b r.result c.requires.sound.reduced (c.node_at.ensures ∙ ap Some x.is) a.ensures.grows b.ensures.grows r.ensures.grows (bit_zero k.fixed x.bit c.is_one_at.result c.is_one_at.ensures c.if-is_one_at.false) a.ensures.written b.ensures.written r.ensures.by in
    written_inserted d3 k (get nat_eq c.written-3.new.known) (get nat_eq c.insert.new.self) c.args.id r.result c.in_ok-insert.ensures.updates.0 (all_written_grows d2 d3 k (get nat_eq c.written-3.new.known) r.ensures.grows b.ensures.known) w

pub returns-clause-grows : goal.returns-clause-grows
returns-clause-grows t c =
    let d0 = c.args.tables.now.table.nodes.items in
    let d1 = c.written-2.new.tables.table.nodes.items in
    let d2 = c.written-3.new.tables.table.nodes.items in
    let d3 = c.split.new.tables.table.nodes.items in
    extends_then d0 d2 d3 (extends_then d0 d1 d2 c.in_ok-a.ensures.grows c.in_ok-b.ensures.grows) c.in_ok-result.ensures.grows

pub returns-in_err-b-clause-grows : goal.returns-in_err-b-clause-grows
returns-in_err-b-clause-grows t c = extends_then _ _ _ c.in_ok-a.ensures.grows c.in_err-b.ensures.grows

pub returns-in_err-result-clause-grows : goal.returns-in_err-result-clause-grows
returns-in_err-result-clause-grows t c = extends_then _ _ _ (extends_then _ _ _ c.in_ok-a.ensures.grows c.in_ok-b.ensures.grows) c.in_err-result.ensures.grows

pub returns-in_err-insert-clause-grows : goal.returns-in_err-insert-clause-grows
returns-in_err-insert-clause-grows t c = extends_then _ _ _ (extends_then _ _ _ c.in_ok-a.ensures.grows c.in_ok-b.ensures.grows) c.in_ok-result.ensures.grows
