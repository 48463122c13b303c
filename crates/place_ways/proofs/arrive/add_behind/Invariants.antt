use Rattle.std.proofs.Common.{take}
use Rattle.cube_diagram.specs.Functions.{Keeps}
use Rattle.place_ways.specs.Adding.{AddsWays, MakesBehind}
use Rattle.place_ways.proofs.arrive.add_behind.Given as goal

abbrev pub invariant-loop-way : goal.invariant-loop-way
invariant-loop-way l = record {
  kept : Keeps l.fn.table l.table;
  added : AddsWays l.fn.table l.table (MakesBehind l.fn.table l.given l.stamp (take l.way-index l.base)) l.fn.ways.items l.ways.items;
}
