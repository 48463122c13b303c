use Rattle.cube_diagram.specs.Functions.{value_at}
use Rattle.change_scope.proofs.NamedLemmas.{destinations_closed}
use Rattle.change_scope.proofs.named.headers_to.Goals as goal

pub returns-clause-by : goal.returns-clause-by
returns-clause-by c =
    destinations_closed (value_at c.first_match.new.self c.in_ok-some.some) (value_at c.by_destination.new.self c.in_ok-all.all) c.in_ok-all.ensures.exact
