use Rattle.std.proofs.Common.{◌≡◌, take}
use Rattle.std.specs.Prelude.{filter_map, fold}
use Rattle.net_types.specs.Walks.{next_state}
use Rattle.walk_trace.specs.Numbered.{with_state}
use Rattle.walk_trace.proofs.numbers.add_reached.Given as goal

abbrev pub invariant-loop-one : goal.invariant-loop-one
invariant-loop-one l = l.found ≡ fold with_state l.initial.found (filter_map next_state (take l.one-index l.moves))
