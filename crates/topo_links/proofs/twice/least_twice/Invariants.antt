use Rattle.std.proofs.Common.{◌≡◌, ◌≤◌, drop, length}
use Rattle.topo_links.specs.Twice.{least_twice}
use Rattle.topo_links.proofs.twice.least_twice.Given as goal

abbrev pub invariant-loop-i : goal.invariant-loop-i
invariant-loop-i l = (l.i ≤ length l.lines) × (l.least ≡ least_twice l.net.devices.items.now (drop l.i l.lines))

abbrev pub decreases-loop-i : goal.decreases-loop-i
decreases-loop-i l = l.i
