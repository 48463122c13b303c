use Rattle.std.proofs.Common.{◌≡◌, ◌-◌, List}
use Rattle.net_types.specs.declared.config.Route.{Route}
use Rattle.config_checks.specs.Findings.{longest_below}
use Rattle.config_checks.specs.Held.{AreOf}
use Rattle.config_checks.proofs.held.Held.longest.Given as goal

abbrev pub invariant-loop-less : goal.invariant-loop-less
invariant-loop-less l = (routes : List Route) → AreOf l.self routes → longest_below routes l.address 33 ≡ longest_below routes l.address (33 - l.less)
