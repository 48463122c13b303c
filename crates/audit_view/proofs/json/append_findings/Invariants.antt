use Rattle.std.proofs.Common.{◌≡◌, ◌++◌, codes, take, flat_map}
use Rattle.audit_view.specs.ShownJson.{finding_json}
use Rattle.audit_view.proofs.json.append_findings.Given as goal

abbrev pub invariant-loop-finding : goal.invariant-loop-finding
invariant-loop-finding l = l.out.items ≡ l.initial.out.items ++ flat_map (λ y. codes ",\n" ++ finding_json l.rows l.list y) (take l.finding-index l.rest)
