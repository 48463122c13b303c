use Rattle.std.proofs.Common.{◌≡◌, take, filter}
use Rattle.live_network.specs.Near.{touches}
use Rattle.live_network.proofs.near.near_links.Given as goal

abbrev pub invariant-loop-segment : goal.invariant-loop-segment
invariant-loop-segment l = l.near.items ≡ filter (touches l.names) (take l.segment-index l.segments)
