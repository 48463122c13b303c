use Rattle.nat_static.proofs.compiled.add_with.Given as goal
use Rattle.std.proofs.Common.{◌≡◌, ◌++◌, take, map}
use Rattle.nat_static.specs.Pieces.{with_stamps}

abbrev pub invariant-loop-p : goal.invariant-loop-p
invariant-loop-p l = l.stamps.items ≡ l.initial.stamps.items ++ map (with_stamps l.direction l.rules l.rule) (take l.p-index l.parts)
