use Rattle.std.proofs.Common.{get_or, arith}
use Rattle.cube_diagram.specs.declared.table.Node.TheVariants.{Nothing, Split, Value}
use Rattle.cube_diagram.specs.Nodes.{NodeBelow}
use Rattle.cube_diagram.proofs.AbsorbedLemmas.{absorbed_later, absorbed_nothing, absorbed_step, absorbed_value, node_there, read_at}
use Rattle.cube_diagram.proofs.absorbed.absorbed_at.Goals as goal

pub bounds-numbers-low : goal.bounds-numbers-low
bounds-numbers-low c =
    let x = c.in-Split in
    let e = node_there c.args.source.now.nodes.items c.args.i c.index.result.now (Split x.bit x.low x.high) c.requires.position c.index.ensures x.is in
    let b : NodeBelow c.args.i (Split x.bit x.low x.high) = c.requires.reduced.below c.args.i _ e in
    let b0 = b.0 in
    let n = c.requires.count in
    omega (arith, b0, n)

pub bounds-numbers-high : goal.bounds-numbers-high
bounds-numbers-high c =
    let x = c.in-Split in
    let e = node_there c.args.source.now.nodes.items c.args.i c.index.result.now (Split x.bit x.low x.high) c.requires.position c.index.ensures x.is in
    let b : NodeBelow c.args.i (Split x.bit x.low x.high) = c.requires.reduced.below c.args.i _ e in
    let b1 = b.1 in
    let n = c.requires.count in
    omega (arith, b1, n)

pub split-requires-clause-low : goal.split-requires-clause-low
split-requires-clause-low c =
    let s = c.args.source.now.nodes.items in
    let x = c.in-Split in
    let numbers = c.args.numbers.now in
    let e = node_there s c.args.i c.index.result.now (Split x.bit x.low x.high) c.requires.position c.index.ensures x.is in
    let b : NodeBelow c.args.i (Split x.bit x.low x.high) = c.requires.reduced.below c.args.i _ e in
    let b0 = b.0 in
    let n = c.requires.count in
    absorbed_later s c.args.told.now c.args.tables.now.table.nodes.items c.args.i x.bit x.low x.high x.low (get_or numbers x.low 0) c.requires.reduced e (c.requires.reduced.ordered c.args.i (Split x.bit x.low x.high) e).1 (c.requires.numbers.each x.low _ (read_at numbers x.low 0 (omega (arith, b0, n))))

pub split-requires-clause-high : goal.split-requires-clause-high
split-requires-clause-high c =
    let s = c.args.source.now.nodes.items in
    let x = c.in-Split in
    let numbers = c.args.numbers.now in
    let e = node_there s c.args.i c.index.result.now (Split x.bit x.low x.high) c.requires.position c.index.ensures x.is in
    let b : NodeBelow c.args.i (Split x.bit x.low x.high) = c.requires.reduced.below c.args.i _ e in
    let b1 = b.1 in
    let n = c.requires.count in
    absorbed_later s c.args.told.now c.args.tables.now.table.nodes.items c.args.i x.bit x.low x.high x.high (get_or numbers x.high 0) c.requires.reduced e (c.requires.reduced.ordered c.args.i (Split x.bit x.low x.high) e).2 (c.requires.numbers.each x.high _ (read_at numbers x.high 0 (omega (arith, b1, n))))

pub returns-in-Nothing-clause-absorbed : goal.returns-in-Nothing-clause-absorbed
returns-in-Nothing-clause-absorbed c =
    let e = node_there c.args.source.now.nodes.items c.args.i c.index.result.now Nothing c.requires.position c.index.ensures c.in-Nothing.is in
    absorbed_nothing c.args.source.now.nodes.items c.args.told.now c.args.tables.now.table.nodes.items c.args.i c.requires.sound.reduced e

pub returns-in_ok-r-in-Value-clause-absorbed : goal.returns-in_ok-r-in-Value-clause-absorbed
returns-in_ok-r-in-Value-clause-absorbed c =
    let v = c.in-Value.value in
    let e = node_there c.args.source.now.nodes.items c.args.i c.index.result.now (Value v) c.requires.position c.index.ensures c.in-Value.is in
    absorbed_value c.args.source.now.nodes.items c.args.told.now c.add.new.tables.table.nodes.items c.args.i v c.renumbered-value.result c.in_ok-r-in-Value.r c.renumbered-value.ensures e c.in_ok-r-in-Value.ensures.entry

pub returns-in_ok-r-in-Split-clause-absorbed : goal.returns-in_ok-r-in-Split-clause-absorbed
returns-in_ok-r-in-Split-clause-absorbed c =
    let s = c.args.source.now.nodes.items in
    let x = c.in-Split in
    let numbers = c.args.numbers.now in
    let e = node_there s c.args.i c.index.result.now (Split x.bit x.low x.high) c.requires.position c.index.ensures x.is in
    let b : NodeBelow c.args.i (Split x.bit x.low x.high) = c.requires.reduced.below c.args.i _ e in
    let b0 = b.0 in
    let b1 = b.1 in
    let n = c.requires.count in
    absorbed_step s c.args.told.now c.args.tables.now.table.nodes.items c.split.new.tables.table.nodes.items c.args.i x.bit x.low x.high (get_or numbers x.low 0) (get_or numbers x.high 0) c.in_ok-r-in-Split.r e c.in_ok-r-in-Split.ensures.grows (c.requires.numbers.each x.low _ (read_at numbers x.low 0 (omega (arith, b0, n)))) (c.requires.numbers.each x.high _ (read_at numbers x.high 0 (omega (arith, b1, n)))) c.in_ok-r-in-Split.ensures.by
