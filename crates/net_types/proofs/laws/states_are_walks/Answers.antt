use Rattle.net_types.proofs.Walking.{states_are_walks}
use Rattle.net_types.proofs.laws.states_are_walks.Goals as goal

pub returns : goal.returns
returns c = states_are_walks
