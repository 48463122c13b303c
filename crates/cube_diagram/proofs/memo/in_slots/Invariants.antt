use Rattle.std.proofs.Common.{All, Contains}
use Rattle.cube_diagram.proofs.memo.in_slots.Given as goal

abbrev pub invariant-loop-known : goal.invariant-loop-known
invariant-loop-known l = All (λ c. Contains l.fn.combinations c) l.slots.items
