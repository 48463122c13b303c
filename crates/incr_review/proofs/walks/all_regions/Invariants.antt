use Rattle.cube_diagram.specs.Functions.{Keeps}
use Rattle.net_view.specs.Borrowed.{world_of}
use Rattle.incr_review.specs.Opened.{AreOpened}
use Rattle.incr_review.proofs.walks.all_regions.Given as goal

abbrev pub invariant-loop-slot : goal.invariant-loop-slot
invariant-loop-slot l = record {
  opened : AreOpened (world_of l.walk.net.now.world) l.walk.ttl l.walk.ingress.now l.table l.slot l.regions.items;
  kept : Keeps l.fn.table l.table;
}
