use Rattle.acl_match.proofs.list.add_pieces.Given as goal
use Rattle.std.proofs.Common.{take}
use Rattle.acl_match.specs.Lists.{AddsPieces}

abbrev pub invariant-loop-cube : goal.invariant-loop-cube
invariant-loop-cube l = AddsPieces (take l.cube-index l.cubes) l.permit l.initial.pieces.items l.pieces.items
