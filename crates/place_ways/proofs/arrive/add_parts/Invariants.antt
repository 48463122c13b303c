use Rattle.std.proofs.Common.{take}
use Rattle.cube_diagram.specs.Functions.{Keeps}
use Rattle.place_ways.specs.Adding.{AddsWays}
use Rattle.place_ways.specs.Parts.{MakesBehindOne}
use Rattle.place_ways.proofs.arrive.add_parts.Given as goal

abbrev pub invariant-loop-part : goal.invariant-loop-part
invariant-loop-part l = record {
  kept : Keeps l.fn.table l.table;
  added : AddsWays l.fn.table l.table (MakesBehindOne l.fn.table (take l.part-index l.parts) l.base) l.fn.ways.items l.ways.items;
}
