use Rattle.std.proofs.Common.{◌≡◌, map, take}
use Rattle.transfer_rel.specs.CubeMoves.{move_of}
use Rattle.device_transfers.proofs.moves.moves_of.Given as goal

abbrev pub invariant-loop-one : goal.invariant-loop-one
invariant-loop-one l = l.answer.items ≡ map (move_of l.h) (take l.one-index l.moves)
