use Rattle.net_types.proofs.RouteLaws.{installed_is_best}
use Rattle.net_types.proofs.laws.installed_is_best.Goals as goal

pub returns : goal.returns
returns c = installed_is_best
