use Rattle.walk_trace.proofs.OutcomeLemmas.{moves_same}
use Rattle.walk_trace.proofs.laws.moves_are_those_of_choices.Goals as goal

pub returns : goal.returns
returns c w u = moves_same w u
