use Rattle.std.proofs.Common.{take}
use Rattle.cube_diagram.specs.Functions.{Keeps}
use Rattle.set_walk.specs.Sets.{InSet}
use Rattle.place_ways.specs.Parts.{AddsParts, IsAmong, outer_of, translates}
use Rattle.place_ways.proofs.parts.add_outers.Given as goal

abbrev pub invariant-loop-outer : goal.invariant-loop-outer
invariant-loop-outer l = record {
  kept : Keeps l.fn.table l.table;
  added : AddsParts l.table (λ h. InSet l.fn.table l.given h × IsAmong (outer_of l.translation) (take l.outer-index l.outers) h) (λ h. translates l.translation h) l.fn.parts.items l.parts.items;
}
