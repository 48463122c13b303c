use Rattle.std.proofs.Common.{refl}
use Rattle.cube_diagram.proofs.LeastLemmas.{gives_nothing}
use Rattle.cube_diagram.proofs.diagrams.Diagrams.least.Goals as goal

pub returns-then-function-eq-NOTHING-clause-none : goal.returns-then-function-eq-NOTHING-clause-none
returns-then-function-eq-NOTHING-clause-none c =
    (λ _ h l. rw (← c.self.view_is) (gives_nothing c.self.inside.tables.table.nodes.items c.self.invariant.reduced c.args.function c.if-function-eq-NOTHING.true h), λ _. refl)
