use Rattle.std.proofs.Common.{◌≡◌, take}
use Rattle.steal_pool.specs.Roots.{in_slots}
use Rattle.steal_pool.proofs.roots.roots_of.Given as goal

abbrev pub invariant-loop-i : goal.invariant-loop-i
invariant-loop-i l = l.roots.items ≡ in_slots 0 (take l.i l.fn.cubes)
