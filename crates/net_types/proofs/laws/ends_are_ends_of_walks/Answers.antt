use Rattle.net_types.proofs.EndLaws.{ends_are_ends_of_walks}
use Rattle.net_types.proofs.laws.ends_are_ends_of_walks.Goals as goal

pub returns : goal.returns
returns c = ends_are_ends_of_walks
