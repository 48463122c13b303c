use Rattle.std.proofs.Common.{take}
use Rattle.acl_match.specs.Products.{AddsMeets}
use Rattle.acl_match.proofs.fields.add_meets.Given as goal

abbrev pub invariant-loop-t : goal.invariant-loop-t
invariant-loop-t l = AddsMeets l.c (take l.t-index l.tests) l.initial.cubes.items l.cubes.items
