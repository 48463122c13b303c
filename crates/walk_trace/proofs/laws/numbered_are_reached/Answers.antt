use Rattle.walk_trace.proofs.LawLemmas.{numbered_are_reached}
use Rattle.walk_trace.proofs.laws.numbered_are_reached.Goals as goal

pub returns : goal.returns
returns c w t s u = numbered_are_reached w s u t
