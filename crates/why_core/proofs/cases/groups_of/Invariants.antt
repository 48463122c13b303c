use Rattle.std.proofs.Common.{take, map}
use Rattle.why_core.specs.Cases.{AreGroups}
use Rattle.why_core.proofs.cases.groups_of.Given as goal

abbrev pub invariant-loop-section : goal.invariant-loop-section
invariant-loop-section l = AreGroups (take l.section-index l.sections) (map (λ v. v.items) l.groups.items)
