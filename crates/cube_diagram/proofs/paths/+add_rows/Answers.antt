use Rattle.std.proofs.Common.{arith, ap, subst, ◌∙◌, Some, refl, suc}
use Rattle.std.specs.Bool.{IsTrue}
use Rattle.cube_alg.specs.Pairs.{HasDigit}
use Rattle.cube_diagram.specs.declared.table.Node.TheVariants.{Split}
use Rattle.cube_diagram.specs.Nodes.{NodeBelow, tested_at}
use Rattle.cube_diagram.proofs.NodeLemmas.{tested_read}
use Rattle.cube_diagram.proofs.PathLemmas.{adds_nothing, adds_value, adds_both, path_zeros, path_ones, free_half}
use Rattle.cube_diagram.proofs.paths.+add_rows.Goals as goal

pub split-requires-clause-bit : goal.split-requires-clause-bit
split-requires-clause-bit t c =
    let o = c.requires.reduced.ordered c.args.id (Split c.in-Split.bit c.in-Split.low c.in-Split.high) (c.node_at.ensures ∙ ap Some c.in-Split.is) in
    let w = o.0 in
    let e = c.from.ensures in
    omega (arith, e, w)

pub split-requires-clause-star : goal.split-requires-clause-star
split-requires-clause-star t c =
    let nodes = c.args.table.now.nodes.items in
    let x = c.in-Split in
    let there = c.node_at.ensures ∙ ap Some x.is in
    let o = c.requires.reduced.ordered c.args.id (Split x.bit x.low x.high) there in
    let q = tested_read nodes c.args.id (Split x.bit x.low x.high) there in
    let e = c.from.ensures in
    let w = o.0 in
    c.requires.free c.from.result (omega (arith, q, e)) (omega (arith, e, w))

pub add_rows-requires : goal.add_rows-requires
add_rows-requires t c =
    let nodes = c.args.table.now.nodes.items in
    let x = c.in-Split in
    let there = c.node_at.ensures ∙ ap Some x.is in
    let o = c.requires.reduced.ordered c.args.id (Split x.bit x.low x.high) there in
    let q = tested_read nodes c.args.id (Split x.bit x.low x.high) there in
    let e = c.from.ensures in
    let b : NodeBelow c.args.id (Split x.bit x.low x.high) = c.requires.reduced.below c.args.id _ there in
    let b0 = b.0 in
    let l = c.requires.id in
    let u = o.1 in
    (omega (arith, b0, c.decreases), (c.requires.reduced, (omega (arith, b0, l), free_half c.args.path.now c.split.result.0 c.from.result 0 (tested_at nodes x.low) c.split.ensures.low_bits (omega (arith, e, u)) (λ j m n. c.requires.free j (omega (arith, m, q, e)) n))))

pub add_rows-requires-in-Split : goal.add_rows-requires-in-Split
add_rows-requires-in-Split t c =
    let nodes = c.args.table.now.nodes.items in
    let x = c.in-Split in
    let there = c.node_at.ensures ∙ ap Some x.is in
    let o = c.requires.reduced.ordered c.args.id (Split x.bit x.low x.high) there in
    let q = tested_read nodes c.args.id (Split x.bit x.low x.high) there in
    let e = c.from.ensures in
    let b : NodeBelow c.args.id (Split x.bit x.low x.high) = c.requires.reduced.below c.args.id _ there in
    let b1 = b.1 in
    let l = c.requires.id in
    let u = o.2 in
    (omega (arith, b1, c.decreases), (c.requires.reduced, (omega (arith, b1, l), free_half c.args.path.now c.split.result.1 c.from.result 1 (tested_at nodes x.high) c.split.ensures.high_bits (omega (arith, e, u)) (λ j m n. c.requires.free j (omega (arith, m, q, e)) n))))

pub returns-in-Nothing-clause-rows : goal.returns-in-Nothing-clause-rows
returns-in-Nothing-clause-rows t c _ value from p =
    adds_nothing c.args.table.now.nodes.items c.requires.reduced value c.args.path.now from c.args.id c.args.rows.now.items p (c.node_at.ensures ∙ ap Some c.in-Nothing.is)

pub returns-in_ok-push-in-Value-clause-rows : goal.returns-in_ok-push-in-Value-clause-rows
returns-in_ok-push-in-Value-clause-rows t c _ value from p =
    rw c.in_ok-push-in-Value.ensures.items (adds_value c.args.table.now.nodes.items c.requires.reduced value c.args.path.now from c.args.id c.in-Value.value c.args.rows.now.items _ refl refl p (c.node_at.ensures ∙ ap Some c.in-Value.is))

pub returns-in_ok-has_ones-in-Split-clause-rows : goal.returns-in_ok-has_ones-in-Split-clause-rows
returns-in_ok-has_ones-in-Split-clause-rows t c all value from p =
    let nodes = c.args.table.now.nodes.items in
    let r = c.requires.reduced in
    let zeros_all : IsTrue c.in_ok-has_zeros-in-Split.has_zeros = (let z = c.if-not-has_zeros.false in cc) in
    let path = c.args.path.now in
    let zeros = c.split.result.0 in
    let ones = c.split.result.1 in
    let x = c.in-Split in
    let there = c.node_at.ensures ∙ ap Some x.is in
    let d = subst (λ k. HasDigit k 0 path zeros) c.from.ensures c.split.ensures.low_bits in
    let g = subst (λ k. HasDigit k 1 path ones) c.from.ensures c.split.ensures.high_bits in
    let a = c.in_ok-has_zeros-in-Split.ensures.rows zeros_all value (suc x.bit) (path_zeros nodes r value path zeros from c.args.id x.bit x.low x.high p there d) in
    let b = c.in_ok-has_ones-in-Split.ensures.rows all value (suc x.bit) (path_ones nodes r value path ones from c.args.id x.bit x.low x.high p there g) in
    adds_both nodes r value path zeros ones from c.args.id x.bit x.low x.high c.args.rows.now.items c.add_rows.new.rows.items c.add_rows-in-Split.new.rows.items p there d g a b
