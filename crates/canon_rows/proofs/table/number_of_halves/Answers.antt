use Rattle.canon_rows.proofs.NodeSteps.{number_of_same, number_of_both}
use Rattle.canon_rows.proofs.table.number_of_halves.Goals as goal

pub returns-then-low-high-clause-number : goal.returns-then-low-high-clause-number
returns-then-low-high-clause-number c f g h s p q =
    number_of_same c.args.nodes.now.keys c.args.shift c.args.low c.args.high f g h c.if-low-high.true p q (λ n l. (s n l).0) (λ n l. (s n l).1)

pub returns-clause-number : goal.returns-clause-number
returns-clause-number c f g h s p q =
    number_of_both c.args.nodes.now.keys c.number_of.new.nodes.keys c.args.shift c.args.low c.args.high c.in_ok-id.id c.node_of_halves-node.result f g h c.if-low-high.false c.in_ok-id.ensures.grows c.in_ok-id.ensures.distinct c.in_ok-id.ensures.entry c.node_of_halves-node.ensures p q (λ n l. (s n l).0) (λ n l. (s n l).1)
