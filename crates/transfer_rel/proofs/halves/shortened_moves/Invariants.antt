use Rattle.std.proofs.Common.{◌≡◌, map, take}
use Rattle.transfer_rel.specs.Halves.{shortened}
use Rattle.transfer_rel.proofs.halves.shortened_moves.Given as goal

abbrev pub invariant-loop-step : goal.invariant-loop-step
invariant-loop-step l = l.short.items ≡ map (shortened l.header) (take l.step-index l.moves)
