use Rattle.std.proofs.Common.{take}
use Rattle.acl_match.proofs.ports.range.Given as goal
use Rattle.acl_match.proofs.PortLemmas.{SaysBlocks}

abbrev pub invariant-loop-block : goal.invariant-loop-block
invariant-loop-block l = SaysBlocks l.shift (take l.block-index l.block-items) l.cubes.items
