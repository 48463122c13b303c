use Rattle.std.proofs.Common.{take}
use Rattle.rib_build.proofs.Tables.{KnowSoFar}
use Rattle.rib_build.proofs.interfaces.Interfaces.of.Given as goal

abbrev pub invariant-loop-interface : goal.invariant-loop-interface
invariant-loop-interface l = KnowSoFar (λ k. k.now) l.own l.enabled (take l.interface-index l.interface-items)
