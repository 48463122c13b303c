use Rattle.std.proofs.Common.{◌≡◌, ◌++◌, ◌≤◌, ◌*◌, ◌^◌, [], codes, take, map, flat_map, All}
use Rattle.view_core.specs.Kinds.{of_kind}
use Rattle.view_core.proofs.kinds.add_kind.Given as goal

abbrev pub invariant-loop-entry : goal.invariant-loop-entry
invariant-loop-entry l = map (λ e. e.now) l.found.items ≡ map (λ e. e.now) l.initial.found.items ++ of_kind (take l.entry-index l.entries) l.kind
