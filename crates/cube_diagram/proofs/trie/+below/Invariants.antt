use Rattle.std.proofs.Common.{◌-◌}
use Rattle.cube_diagram.proofs.trie.+below.Given as goal

abbrev pub decreases-below : goal.decreases-below
decreases-below l = 112 - l.bit
