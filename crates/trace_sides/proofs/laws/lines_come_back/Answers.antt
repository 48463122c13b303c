use Rattle.std.proofs.Common.{true}
use Rattle.trace_sides.proofs.Blanks.{back}
use Rattle.trace_sides.proofs.laws.lines_come_back.Goals as goal

pub returns : goal.returns
returns c = back true
