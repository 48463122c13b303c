use Rattle.std.proofs.Common.{filter, take}
use Rattle.config_checks.specs.Findings.{is_out}
use Rattle.config_checks.specs.Held.{AreOf}
use Rattle.config_checks.proofs.translation.held_out.Given as goal

abbrev pub invariant-loop-route : goal.invariant-loop-route
invariant-loop-route l = AreOf l.held (filter (is_out l.side l.config) (take l.route-index l.routes))
