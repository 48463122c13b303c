use Rattle.std.proofs.Common.{◌≡◌, ◌++◌, ◌≤◌, ◌*◌, ◌^◌, [], codes, take, map, flat_map, All}
use Rattle.view_core.specs.Counts.{tally_with}
use Rattle.view_core.proofs.tallies.add_counted.Given as goal

abbrev pub invariant-loop-text : goal.invariant-loop-text
invariant-loop-text l = l.found.items ≡ l.initial.found.items ++ map (tally_with l.version l.counts) (take l.text-index l.texts)
