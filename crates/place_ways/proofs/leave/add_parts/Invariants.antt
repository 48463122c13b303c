use Rattle.std.proofs.Common.{take}
use Rattle.cube_diagram.specs.Functions.{Keeps}
use Rattle.place_ways.specs.Adding.{AddsWays}
use Rattle.place_ways.specs.Leaving.{LeavesByOne}
use Rattle.place_ways.proofs.leave.add_parts.Given as goal

abbrev pub invariant-loop-part : goal.invariant-loop-part
invariant-loop-part l = record {
  kept : Keeps l.fn.table l.table;
  added : AddsWays l.fn.table l.table (LeavesByOne l.fn.table (take l.part-index l.parts) l.leaving) l.fn.ways.ways.items l.ways.ways.items;
}
