use Rattle.std.proofs.Common.{◌+◌}
use Rattle.cube_diagram.proofs.paired.+paired.Given as goal

abbrev pub decreases-paired : goal.decreases-paired
decreases-paired l = l.a + l.b
