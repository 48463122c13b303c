use Rattle.std.proofs.Common.{ap, ◌∙◌, Some}
use Rattle.cube_diagram.proofs.CombineLemmas.{without_same, without_nothing, without_value, nothing_without, open_split_second}
use Rattle.cube_diagram.proofs.combine.without_settled.Goals as goal

pub returns-then-a-b-clause-joined : goal.returns-then-a-b-clause-joined
returns-then-a-b-clause-joined c = without_same c.args.table.now.nodes.items c.args.a c.args.b c.requires.reduced c.requires.first c.requires.second c.if-a-b.true

pub returns-in-Nothing-clause-joined : goal.returns-in-Nothing-clause-joined
returns-in-Nothing-clause-joined c = without_nothing c.args.table.now.nodes.items c.args.a c.args.b c.requires.first c.requires.second (c.node_at.ensures ∙ ap Some c.in-Nothing.is)

pub returns-in-Value-clause-joined : goal.returns-in-Value-clause-joined
returns-in-Value-clause-joined c = without_value c.args.table.now.nodes.items c.args.a c.args.b c.in-Value.value c.requires.reduced c.requires.first c.requires.second (c.node_at.ensures ∙ ap Some c.in-Value.is)

pub returns-then-a-eq-NOTHING-clause-joined : goal.returns-then-a-eq-NOTHING-clause-joined
returns-then-a-eq-NOTHING-clause-joined c = nothing_without c.args.table.now.nodes.items c.args.a c.args.b c.requires.first c.requires.second c.requires.reduced.start c.if-a-eq-NOTHING.true

pub returns-else-a-eq-NOTHING-clause-open : goal.returns-else-a-eq-NOTHING-clause-open
returns-else-a-eq-NOTHING-clause-open c _ = open_split_second c.args.table.now.nodes.items c.args.a c.args.b c.in-Split.bit c.in-Split.low c.in-Split.high c.requires.reduced (c.node_at.ensures ∙ ap Some c.in-Split.is)
