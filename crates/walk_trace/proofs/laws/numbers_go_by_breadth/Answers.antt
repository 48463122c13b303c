use Rattle.walk_trace.proofs.Breadth.{two_levels}
use Rattle.walk_trace.proofs.laws.numbers_go_by_breadth.Goals as goal

pub returns : goal.returns
returns c w n s = two_levels w s n
