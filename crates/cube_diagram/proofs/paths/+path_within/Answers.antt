use Rattle.std.proofs.Common.{arith, ap, subst, ◌∙◌, Some, suc}
use Rattle.cube_alg.specs.Pairs.{HasDigit}
use Rattle.cube_diagram.specs.declared.table.Node.TheVariants.{Split}
use Rattle.cube_diagram.specs.Nodes.{NodeBelow, tested_at}
use Rattle.cube_diagram.proofs.NodeLemmas.{tested_read}
use Rattle.cube_diagram.proofs.PathLemmas.{path_zeros, path_ones, free_half}
use Rattle.cube_diagram.proofs.paths.+path_within.Goals as goal

pub split-requires-clause-bit : goal.split-requires-clause-bit
split-requires-clause-bit t c =
    let o = c.requires.reduced.ordered c.args.id (Split c.in-Split.bit c.in-Split.low c.in-Split.high) (c.node_at.ensures ∙ ap Some c.in-Split.is) in
    let w = o.0 in
    let e = c.from.ensures in
    omega (arith, e, w)

pub split-requires-clause-star : goal.split-requires-clause-star
split-requires-clause-star t c =
    let nodes = c.args.table.now.nodes.items in
    let x = c.in-Split in
    let there = c.node_at.ensures ∙ ap Some x.is in
    let o = c.requires.reduced.ordered c.args.id (Split x.bit x.low x.high) there in
    let q = tested_read nodes c.args.id (Split x.bit x.low x.high) there in
    let e = c.from.ensures in
    let w = o.0 in
    c.requires.free c.from.result (omega (arith, q, e)) (omega (arith, e, w))

pub path_within-requires : goal.path_within-requires
path_within-requires t c =
    let nodes = c.args.table.now.nodes.items in
    let x = c.in-Split in
    let there = c.node_at.ensures ∙ ap Some x.is in
    let o = c.requires.reduced.ordered c.args.id (Split x.bit x.low x.high) there in
    let q = tested_read nodes c.args.id (Split x.bit x.low x.high) there in
    let e = c.from.ensures in
    let b : NodeBelow c.args.id (Split x.bit x.low x.high) = c.requires.reduced.below c.args.id _ there in
    let b1 = b.1 in
    let l = c.requires.id in
    let u = o.2 in
    (omega (arith, b1, c.decreases), (c.requires.reduced, (omega (arith, b1, l), free_half c.args.path.now c.split.result.1 c.from.result 1 (tested_at nodes x.high) c.split.ensures.high_bits (omega (arith, e, u)) (λ j m n. c.requires.free j (omega (arith, m, q, e)) n))))

pub path_within-requires-else-is_one_at : goal.path_within-requires-else-is_one_at
path_within-requires-else-is_one_at t c =
    let nodes = c.args.table.now.nodes.items in
    let x = c.in-Split in
    let there = c.node_at.ensures ∙ ap Some x.is in
    let o = c.requires.reduced.ordered c.args.id (Split x.bit x.low x.high) there in
    let q = tested_read nodes c.args.id (Split x.bit x.low x.high) there in
    let e = c.from.ensures in
    let b : NodeBelow c.args.id (Split x.bit x.low x.high) = c.requires.reduced.below c.args.id _ there in
    let b0 = b.0 in
    let l = c.requires.id in
    let u = o.1 in
    (omega (arith, b0, c.decreases), (c.requires.reduced, (omega (arith, b0, l), free_half c.args.path.now c.split.result.0 c.from.result 0 (tested_at nodes x.low) c.split.ensures.low_bits (omega (arith, e, u)) (λ j m n. c.requires.free j (omega (arith, m, q, e)) n))))

pub returns-then-is_one_at-clause-path : goal.returns-then-is_one_at-clause-path
returns-then-is_one_at-clause-path t c value from p =
    let nodes = c.args.table.now.nodes.items in
    let x = c.in-Split in
    let g = subst (λ k. HasDigit k 1 c.args.path.now c.split.result.1) c.from.ensures c.split.ensures.high_bits in
    c.path_within.ensures.path value (suc x.bit) (path_ones nodes c.requires.reduced value c.args.path.now c.split.result.1 from c.args.id x.bit x.low x.high p (c.node_at.ensures ∙ ap Some x.is) g)

pub returns-else-is_one_at-clause-path : goal.returns-else-is_one_at-clause-path
returns-else-is_one_at-clause-path t c value from p =
    let nodes = c.args.table.now.nodes.items in
    let x = c.in-Split in
    let d = subst (λ k. HasDigit k 0 c.args.path.now c.split.result.0) c.from.ensures c.split.ensures.low_bits in
    c.path_within-else-is_one_at.ensures.path value (suc x.bit) (path_zeros nodes c.requires.reduced value c.args.path.now c.split.result.0 from c.args.id x.bit x.low x.high p (c.node_at.ensures ∙ ap Some x.is) d)
