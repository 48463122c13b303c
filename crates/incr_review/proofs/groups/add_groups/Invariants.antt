use Rattle.std.proofs.Common.{map, take}
use Rattle.cube_diagram.specs.Functions.{Keeps}
use Rattle.net_view.specs.Borrowed.{world_of}
use Rattle.incr_review.specs.Again.{AddsAgain}
use Rattle.incr_review.specs.Groups.{as_known}
use Rattle.incr_review.proofs.groups.add_groups.Given as goal

abbrev pub invariant-loop-group : goal.invariant-loop-group
invariant-loop-group l = record {
  added : AddsAgain (world_of l.walk.net.now.world) l.walk.ttl l.walk.ingress.now l.fn.table (map as_known (take l.group-index l.groups)) l.table l.fn.after.items l.after.items;
  kept : Keeps l.fn.table l.table;
}
