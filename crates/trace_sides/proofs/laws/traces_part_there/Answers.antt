use Rattle.trace_sides.proofs.Parting.{part}
use Rattle.trace_sides.proofs.laws.traces_part_there.Goals as goal

pub returns : goal.returns
returns c = part
