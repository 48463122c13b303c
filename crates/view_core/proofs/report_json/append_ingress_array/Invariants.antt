use Rattle.std.proofs.Common.{◌≡◌, ◌++◌, ◌≤◌, ◌*◌, ◌^◌, [], codes, take, map, flat_map, All}
use Rattle.view_core.specs.ReportJson.{ingress_object}
use Rattle.view_core.proofs.report_json.append_ingress_array.Given as goal

abbrev pub invariant-loop-ingress : goal.invariant-loop-ingress
invariant-loop-ingress l = l.out.items ≡ l.initial.out.items ++ flat_map (λ y. codes ",\n" ++ ingress_object l.names y) (take l.ingress-index l.rest)
