use Rattle.std.proofs.Common.{◌≡◌, ◌++◌, codes, take, flat_map}
use Rattle.audit_view.specs.ShownJson.{list_json}
use Rattle.audit_view.proofs.json.append_lists.Given as goal

abbrev pub invariant-loop-one : goal.invariant-loop-one
invariant-loop-one l = l.out.items ≡ l.initial.out.items ++ flat_map (λ y. codes ",\n" ++ list_json l.rows y) (take l.one-index l.rest)
