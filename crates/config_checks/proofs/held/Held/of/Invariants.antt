use Rattle.std.proofs.Common.{take}
use Rattle.config_checks.specs.Held.{AreOf}
use Rattle.config_checks.proofs.held.Held.of.Given as goal

abbrev pub invariant-loop-route : goal.invariant-loop-route
invariant-loop-route l = AreOf l.held (take l.route-index l.routes)
