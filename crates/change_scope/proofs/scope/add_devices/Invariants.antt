use Rattle.std.proofs.Common.{take}
use Rattle.cube_diagram.specs.Functions.{Keeps}
use Rattle.net_view.specs.Borrowed.{world_of}
use Rattle.change_scope.specs.Differences.{HasAll}
use Rattle.change_scope.specs.Pairs.{HasTurned}
use Rattle.change_scope.proofs.ScopeLemmas.{AllAlike}
use Rattle.change_scope.proofs.scope.add_devices.Given as goal

abbrev pub invariant-loop-device : goal.invariant-loop-device
invariant-loop-device l = record {
  kept : Keeps l.fn.table l.table;
  turned : HasTurned l.pair l.table l.all;
  more : HasAll l.fn.table l.set l.table l.all;
  alike : AllAlike (world_of l.pair.old.now.world) (world_of l.pair.new.now.world) l.table l.all (take l.device-index l.devices);
}
