use Rattle.acl_audit.proofs.taken.rows_of.Given as goal
use Rattle.std.proofs.Common.{take, ◌≡◌}
use Rattle.cube_diagram.specs.Paths.{cubes_of}

abbrev pub invariant-loop-piece : goal.invariant-loop-piece
invariant-loop-piece l = l.rows.items ≡ cubes_of (take l.piece-index l.piece-items)
