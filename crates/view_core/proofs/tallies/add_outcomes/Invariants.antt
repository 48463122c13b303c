use Rattle.std.proofs.Common.{◌≡◌, ◌++◌, ◌≤◌, ◌*◌, ◌^◌, [], codes, take, map, flat_map, All}
use Rattle.view_core.specs.Tallies.{mention_in, mention_of}
use Rattle.view_core.proofs.tallies.add_outcomes.Given as goal

abbrev pub invariant-loop-outcome : goal.invariant-loop-outcome
invariant-loop-outcome l = map mention_in l.found.items ≡ map mention_in l.initial.found.items ++ map (mention_of l.names l.rows) (take l.outcome-index l.outcomes)
