use Rattle.std.proofs.Common.{◌≡◌, ◌++◌, ◌≤◌, ◌*◌, ◌^◌, [], codes, take, map, flat_map, All}
use Rattle.view_core.specs.ReportJson.{tally_object}
use Rattle.view_core.proofs.report_json.append_tally_array.Given as goal

abbrev pub invariant-loop-tally : goal.invariant-loop-tally
invariant-loop-tally l = l.out.items ≡ l.initial.out.items ++ flat_map (λ y. codes ",\n" ++ tally_object y) (take l.tally-index l.rest)
