use Rattle.trace_sides.proofs.Parting.{whole}
use Rattle.trace_sides.proofs.laws.traces_are_whole.Goals as goal

pub returns : goal.returns
returns c = whole
