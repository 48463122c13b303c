use Rattle.std.proofs.Common.{◌≡◌, ◌++◌, ◌≤◌, ◌*◌, ◌^◌, [], codes, take, map, flat_map, All}
use Rattle.view_core.specs.Tallies.{mention_in, group_mentions}
use Rattle.view_core.proofs.tallies.add_ingress.Given as goal

abbrev pub invariant-loop-entry : goal.invariant-loop-entry
invariant-loop-entry l = map mention_in l.found.items ≡ map mention_in l.initial.found.items ++ flat_map (group_mentions l.names l.version) (take l.entry-index l.groups)
