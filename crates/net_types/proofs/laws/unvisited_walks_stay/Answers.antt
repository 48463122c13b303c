use Rattle.net_types.proofs.Unvisited.{unvisited_walks}
use Rattle.net_types.proofs.laws.unvisited_walks_stay.Goals as goal

pub returns : goal.returns
returns c = unvisited_walks
