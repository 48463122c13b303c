use Rattle.std.proofs.Common.{◌≡◌, ◌++◌, ◌≤◌, ◌*◌, ◌^◌, [], codes, take, map, flat_map, All}
use Rattle.view_core.specs.Ingresses.{kind_total}
use Rattle.view_core.specs.ViewText.{kind_line}
use Rattle.view_core.proofs.summary.append_lines_of.Given as goal

abbrev pub invariant-loop-kind : goal.invariant-loop-kind
invariant-loop-kind l = l.out.items ≡ l.initial.out.items ++ flat_map (λ kind. kind_line kind (kind_total l.ingresses kind)) (take l.kind-index l.kinds)
