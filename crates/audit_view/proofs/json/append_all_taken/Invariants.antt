use Rattle.std.proofs.Common.{◌≡◌, ◌++◌, codes, take, flat_map}
use Rattle.audit_view.specs.ShownJson.{taken_json}
use Rattle.audit_view.proofs.json.append_all_taken.Given as goal

abbrev pub invariant-loop-one : goal.invariant-loop-one
invariant-loop-one l = l.out.items ≡ l.initial.out.items ++ flat_map (λ y. codes ", " ++ taken_json l.rows l.list y) (take l.one-index l.rest)
