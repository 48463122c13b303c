use Rattle.nat_static.proofs.compiled.stamps_of.Given as goal
use Rattle.std.proofs.Common.{take}
use Rattle.nat_static.specs.Pieces.{AreStamps}

abbrev pub invariant-loop-part : goal.invariant-loop-part
invariant-loop-part l = AreStamps l.direction l.rules (take l.part-index l.parts) l.stamps.items
