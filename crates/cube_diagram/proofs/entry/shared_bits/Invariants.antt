use Rattle.std.proofs.Common.{take, ◌≤◌}
use Rattle.cube_diagram.specs.Entries.{AreAlike}
use Rattle.cube_diagram.proofs.entry.shared_bits.Given as goal

abbrev pub invariant-loop-c : goal.invariant-loop-c
invariant-loop-c l = record { within : l.shared ≤ 112; alike : AreAlike l.first l.shared (take l.c-index l.cubes) }
