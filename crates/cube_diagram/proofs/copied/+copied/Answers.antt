use Rattle.hdr_bits.proofs.ListLemmas.{extends_then}
use Rattle.std.proofs.Common.{ap, sym, ◌∙◌, Some, arith, nat_eq}
use Rattle.indexmap.specs.IndexMap.{get}
use Rattle.cube_diagram.specs.declared.table.Node.TheVariants.{Split}
use Rattle.cube_diagram.specs.Nodes.{NodeBelow}
use Rattle.cube_diagram.proofs.CombineLemmas.{later_grows}
use Rattle.cube_diagram.proofs.ImageLemmas.{copied_nothing, copied_value, copied_step, copied_inserted, all_copied_grows, copy_later}
use Rattle.cube_diagram.proofs.copied.+copied.Goals as goal

pub returns-in-Some-clause-copied : goal.returns-in-Some-clause-copied
returns-in-Some-clause-copied t c = c.requires.known.each c.args.id c.in-Some.r.now (sym c.in-Some.ensures.value)

pub copied-requires : goal.copied-requires
copied-requires t c =
    let b : NodeBelow c.args.id (Split c.in-Split.bit c.in-Split.low c.in-Split.high) = c.requires.reduced.below c.args.id _ (c.node_at.ensures ∙ ap Some c.in-Split.is) in
    let b0 = b.0 in
    let l = c.requires.id in
    (omega (arith, b0, c.decreases), (c.requires.sound, (c.requires.reduced, (omega (arith, b0, l), c.requires.known))))

pub copied-requires-in-Split : goal.copied-requires-in-Split
copied-requires-in-Split t c =
    let b : NodeBelow c.args.id (Split c.in-Split.bit c.in-Split.low c.in-Split.high) = c.requires.reduced.below c.args.id _ (c.node_at.ensures ∙ ap Some c.in-Split.is) in
    let b1 = b.1 in
    let l = c.requires.id in
    (omega (arith, b1, c.decreases), (c.in_ok-a-in-Split.ensures.sound, (c.requires.reduced, (omega (arith, b1, l), c.in_ok-a-in-Split.ensures.known))))

pub split-requires-clause-low : goal.split-requires-clause-low
split-requires-clause-low t c =
    let s = c.args.source.now.nodes.items in
    let d1 = c.copied.new.tables.table.nodes.items in
    let d2 = c.copied-in-Split.new.tables.table.nodes.items in
    let x = c.in-Split in
    let e = c.node_at.ensures ∙ ap Some x.is in
    later_grows d1 d2 x.bit c.in_ok-a-in-Split.a c.in_ok-b-in-Split.ensures.grows (copy_later s d1 c.args.id x.bit x.low x.high x.low c.in_ok-a-in-Split.a c.requires.reduced e (c.requires.reduced.ordered c.args.id (Split x.bit x.low x.high) e).1 c.in_ok-a-in-Split.ensures.copied)

pub split-requires-clause-high : goal.split-requires-clause-high
split-requires-clause-high t c =
    let s = c.args.source.now.nodes.items in
    let d2 = c.copied-in-Split.new.tables.table.nodes.items in
    let x = c.in-Split in
    let e = c.node_at.ensures ∙ ap Some x.is in
    copy_later s d2 c.args.id x.bit x.low x.high x.high c.in_ok-b-in-Split.b c.requires.reduced e (c.requires.reduced.ordered c.args.id (Split x.bit x.low x.high) e).2 c.in_ok-b-in-Split.ensures.copied

pub returns-in-Nothing-clause-copied : goal.returns-in-Nothing-clause-copied
returns-in-Nothing-clause-copied t c =
    copied_nothing c.args.source.now.nodes.items c.args.tables.now.table.nodes.items c.args.id c.requires.sound.reduced (c.node_at.ensures ∙ ap Some c.in-Nothing.is)

pub returns-in_ok-r-in-Value-clause-copied : goal.returns-in_ok-r-in-Value-clause-copied
returns-in_ok-r-in-Value-clause-copied t c =
    copied_value c.args.source.now.nodes.items c.add.new.tables.table.nodes.items c.args.id c.in-Value.value c.in_ok-r-in-Value.r (c.node_at.ensures ∙ ap Some c.in-Value.is) c.in_ok-r-in-Value.ensures.entry

pub returns-in_ok-r-in-Value-clause-known : goal.returns-in_ok-r-in-Value-clause-known
returns-in_ok-r-in-Value-clause-known t c =
    all_copied_grows c.args.source.now.nodes.items c.args.tables.now.table.nodes.items c.add.new.tables.table.nodes.items (get nat_eq c.args.known.now) c.in_ok-r-in-Value.ensures.grows c.requires.known

pub returns-in_ok-insert-in-Split-clause-copied : goal.returns-in_ok-insert-in-Split-clause-copied
returns-in_ok-insert-in-Split-clause-copied t c =
    let s = c.args.source.now.nodes.items in
    let x = c.in-Split in
    let a = c.in_ok-a-in-Split in
    let b = c.in_ok-b-in-Split in
    let r = c.in_ok-result-in-Split in
    copied_step s c.copied.new.tables.table.nodes.items c.copied-in-Split.new.tables.table.nodes.items c.split.new.tables.table.nodes.items c.args.id x.bit x.low x.high a.a b.b r.result (c.node_at.ensures ∙ ap Some x.is) b.ensures.grows r.ensures.grows a.ensures.copied b.ensures.copied r.ensures.by

pub returns-in_ok-insert-in-Split-clause-known : goal.returns-in_ok-insert-in-Split-clause-known
returns-in_ok-insert-in-Split-clause-known t c =
    let s = c.args.source.now.nodes.items in
    let x = c.in-Split in
    let a = c.in_ok-a-in-Split in
    let b = c.in_ok-b-in-Split in
    let r = c.in_ok-result-in-Split in
    let d2 = c.copied-in-Split.new.tables.table.nodes.items in
    let d3 = c.split.new.tables.table.nodes.items in
    let w = copied_step s c.copied.new.tables.table.nodes.items d2 d3 c.args.id x.bit x.low x.high a.a b.b r.result (c.node_at.ensures ∙ ap Some x.is) b.ensures.grows r.ensures.grows a.ensures.copied b.ensures.copied r.ensures.by in
    copied_inserted s d3 (get nat_eq c.copied-in-Split.new.known) (get nat_eq c.insert.new.self) c.args.id r.result c.in_ok-insert-in-Split.ensures.updates.0 (all_copied_grows s d2 d3 (get nat_eq c.copied-in-Split.new.known) r.ensures.grows b.ensures.known) w

pub returns-in_err-b-in-Split-clause-grows : goal.returns-in_err-b-in-Split-clause-grows
returns-in_err-b-in-Split-clause-grows t c = extends_then _ _ _ c.in_ok-a-in-Split.ensures.grows c.in_err-b-in-Split.ensures.grows

pub returns-in_err-result-in-Split-clause-grows : goal.returns-in_err-result-in-Split-clause-grows
returns-in_err-result-in-Split-clause-grows t c = extends_then _ _ _ (extends_then _ _ _ c.in_ok-a-in-Split.ensures.grows c.in_ok-b-in-Split.ensures.grows) c.in_err-result-in-Split.ensures.grows

pub returns-in_err-insert-in-Split-clause-grows : goal.returns-in_err-insert-in-Split-clause-grows
returns-in_err-insert-in-Split-clause-grows t c = extends_then _ _ _ (extends_then _ _ _ c.in_ok-a-in-Split.ensures.grows c.in_ok-b-in-Split.ensures.grows) c.in_ok-result-in-Split.ensures.grows

pub returns-in_ok-insert-in-Split-clause-grows : goal.returns-in_ok-insert-in-Split-clause-grows
returns-in_ok-insert-in-Split-clause-grows t c = extends_then _ _ _ (extends_then _ _ _ c.in_ok-a-in-Split.ensures.grows c.in_ok-b-in-Split.ensures.grows) c.in_ok-result-in-Split.ensures.grows
