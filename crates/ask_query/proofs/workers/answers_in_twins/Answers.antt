use Rattle.std.proofs.Common.{sym, subst}
use Rattle.cube_diagram.specs.Functions.{Functions, Keeps}
use Rattle.set_walk.proofs.SetLemmas.{keeps_same}
use Rattle.ask_query.specs.Shared.{IsAsked}
use Rattle.ask_query.proofs.workers.answers_in_twins.Goals as goal

pub of-requires : goal.of-requires
of-requires g c = subst (λ (fs : Functions). Keeps fs c.args.table) (sym c.requires.base) (keeps_same c.args.table)

pub answers_shared-requires-clause-asked : goal.answers_shared-requires-clause-asked
answers_shared-requires-clause-asked g c κs within = subst (λ (fs : Functions). IsAsked fs c.args.asked.now) (sym c.requires.base) c.requires.asked

pub answers_shared-requires-2-clause-asked : goal.answers_shared-requires-2-clause-asked
answers_shared-requires-2-clause-asked g c κs within = subst (λ (fs : Functions). IsAsked fs c.args.asked.now) (sym c.requires.base) c.requires.asked
