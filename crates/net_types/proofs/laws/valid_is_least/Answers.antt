use Rattle.net_types.proofs.RouteLaws.{valid_is_least}
use Rattle.net_types.proofs.laws.valid_is_least.Goals as goal

pub returns : goal.returns
returns c = valid_is_least
