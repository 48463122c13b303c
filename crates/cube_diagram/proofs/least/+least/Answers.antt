use Rattle.std.proofs.Common.{ap, sym, ◌∙◌, ◌+◌, Some, arith, subst}
use Rattle.cube_diagram.specs.declared.table.Node.TheVariants.{Split}
use Rattle.cube_diagram.specs.Nodes.{NodeBelow, tested_at}
use Rattle.cube_diagram.specs.Images.{IsLeast}
use Rattle.cube_diagram.proofs.LeastLemmas.{least_flat, least_low, least_high, weight_fits, sum_below}
use Rattle.cube_diagram.proofs.least.+least.Goals as goal

pub returns-in_default : goal.returns-in_default
returns-in_default t c = least_flat c.args.table.now.nodes.items c.args.id c.node_at.result c.requires.reduced c.node_at.ensures c.in_default.not-Split c.requires.some

pub least-requires : goal.least-requires
least-requires t c =
    let b : NodeBelow c.args.id (Split c.in-Split.bit c.in-Split.low c.in-Split.high) = c.requires.reduced.below c.args.id _ (c.node_at.ensures ∙ ap Some c.in-Split.is) in
    let b0 = b.0 in
    let l = c.requires.id in
    (omega (arith, b0, c.decreases), (c.requires.reduced, (omega (arith, b0, l), c.if-low-ne-NOTHING.true)))

pub returns-then-low-ne-NOTHING : goal.returns-then-low-ne-NOTHING
returns-then-low-ne-NOTHING t c =
    least_low c.args.table.now.nodes.items c.args.id c.in-Split.bit c.in-Split.low c.in-Split.high c.least.result c.requires.reduced (c.node_at.ensures ∙ ap Some c.in-Split.is) c.least.ensures

pub overflow_sub-result : goal.overflow_sub-result
overflow_sub-result t c =
    let o = c.requires.reduced.ordered c.args.id (Split c.in-Split.bit c.in-Split.low c.in-Split.high) (c.node_at.ensures ∙ ap Some c.in-Split.is) in
    let o0 = o.0 in
    omega (arith, o0)

pub least-requires-2 : goal.least-requires-2
least-requires-2 t c =
    let e = c.node_at.ensures ∙ ap Some c.in-Split.is in
    let b : NodeBelow c.args.id (Split c.in-Split.bit c.in-Split.low c.in-Split.high) = c.requires.reduced.below c.args.id _ e in
    let o = c.requires.reduced.ordered c.args.id (Split c.in-Split.bit c.in-Split.low c.in-Split.high) e in
    let b1 = b.1 in
    let l = c.requires.id in
    (omega (arith, b1, c.decreases), (c.requires.reduced, (omega (arith, b1, l), λ z. o.3 (c.if-low-ne-NOTHING.false ∙ sym z))))

pub overflow_add-result : goal.overflow_add-result
overflow_add-result t c =
    let w = least_high c.args.table.now.nodes.items c.args.id c.in-Split.bit c.in-Split.low c.in-Split.high c.least-2.result c.requires.reduced (c.node_at.ensures ∙ ap Some c.in-Split.is) c.if-low-ne-NOTHING.false c.least-2.ensures in
    let s = sum_below c.in-Split.bit (tested_at c.args.table.now.nodes.items c.args.id) c.least-2.result _ (weight_fits c.in-Split.bit) w.below in
    record { fits = s }

pub returns : goal.returns
returns t c =
    let w = least_high c.args.table.now.nodes.items c.args.id c.in-Split.bit c.in-Split.low c.in-Split.high c.least-2.result c.requires.reduced (c.node_at.ensures ∙ ap Some c.in-Split.is) c.if-low-ne-NOTHING.false c.least-2.ensures in
    subst (λ n. IsLeast c.args.table.now.nodes.items c.args.id (n + c.least-2.result)) (sym (weight_fits c.in-Split.bit)) w
