use Rattle.std.proofs.Common.{ℕ, List, [], subst}
use Rattle.cube_diagram.specs.Nodes.{meaning}
use Rattle.cube_diagram.specs.Reach.{AddsGiven, AreGiven}
use Rattle.cube_diagram.specs.Functions.{value_at}
use Rattle.cube_diagram.proofs.ReachLemmas.{given_from_empty}
use Rattle.cube_diagram.proofs.diagrams.Diagrams.values_on.Goals as goal

pub returns-clause-given : goal.returns-clause-given
returns-clause-given c =
    let value = meaning c.self.inside.tables.table.nodes.items c.args.function in
    let at = c.args.cube.now in
    let added : AddsGiven value at [] c.collect.new.values.keys = subst (λ (xs : List ℕ). AddsGiven value at xs c.collect.new.values.keys) c.new-values.ensures.empty c.in_ok-collect.ensures.given in
    let all : AreGiven (value_at c.args.self.now c.args.function) at c.collect.new.values.keys = rw (← c.self.view_is) (given_from_empty value at c.collect.new.values.keys added) in
    all
