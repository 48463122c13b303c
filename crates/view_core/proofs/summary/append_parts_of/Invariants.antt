use Rattle.std.proofs.Common.{◌≡◌, ◌++◌, ◌≤◌, ◌*◌, ◌^◌, [], codes, take, map, flat_map, All}
use Rattle.view_core.specs.Kinds.{kind_count}
use Rattle.view_core.specs.ViewText.{kind_part}
use Rattle.view_core.proofs.summary.append_parts_of.Given as goal

abbrev pub invariant-loop-kind : goal.invariant-loop-kind
invariant-loop-kind l = l.out.items ≡ l.initial.out.items ++ flat_map (λ kind. kind_part kind (kind_count l.groups kind)) (take l.kind-index l.kinds)
