use Rattle.net_types.proofs.RouteLaws.{hops_are_choices}
use Rattle.net_types.proofs.laws.hops_are_choices.Goals as goal

pub returns : goal.returns
returns c rib = hops_are_choices rib.routes rib.count
