use Rattle.std.proofs.Common.{take}
use Rattle.std.specs.Prelude.{filter_map}
use Rattle.region_walk.specs.Lists.{AddsFrom, AreNumbersOf}
use Rattle.region_walk.specs.Spots.{next_spot}
use Rattle.region_walk.proofs.visit.numbers_of.Given as goal

abbrev pub invariant-loop-one : goal.invariant-loop-one
invariant-loop-one l = record {
  adds : AddsFrom (filter_map next_spot (take l.one-index l.moves)) l.initial.spots.keys l.spots.keys;
  numbers : AreNumbersOf l.spots.keys l.numbers.items (filter_map next_spot (take l.one-index l.moves));
}
