use Rattle.nat_static.proofs.compiled.add_rules.Given as goal
use Rattle.std.proofs.Common.{take}
use Rattle.nat_static.specs.Pieces.{AddsRules}

abbrev pub invariant-loop-i : goal.invariant-loop-i
invariant-loop-i l = AddsRules l.group l.direction (take l.i l.rules) l.initial.pieces.items l.pieces.items
