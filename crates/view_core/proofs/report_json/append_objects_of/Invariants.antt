use Rattle.std.proofs.Common.{◌≡◌, ◌++◌, ◌≤◌, ◌*◌, ◌^◌, [], codes, take, map, flat_map, All}
use Rattle.view_core.specs.Ingresses.{kind_total}
use Rattle.view_core.specs.ReportJson.{kind_object}
use Rattle.view_core.proofs.report_json.append_objects_of.Given as goal

abbrev pub invariant-loop-kind : goal.invariant-loop-kind
invariant-loop-kind l = l.out.items ≡ l.initial.out.items ++ flat_map (λ y. codes ", " ++ kind_object y (kind_total l.ingresses y)) (take l.kind-index l.rest)
