use Rattle.std.proofs.Common.{◌≡◌, ◌++◌, ◌≤◌, ◌*◌, ◌^◌, [], codes, take, map, flat_map, All}
use Rattle.view_core.specs.Kinds.{of_kind}
use Rattle.view_core.proofs.kinds.add_kinds.Given as goal

abbrev pub invariant-loop-kind : goal.invariant-loop-kind
invariant-loop-kind l = map (λ e. e.now) l.found.items ≡ map (λ e. e.now) l.initial.found.items ++ flat_map (of_kind l.entries) (take l.kind-index l.kinds)
