use Rattle.std.proofs.Common.{take}
use Rattle.config_checks.specs.Held.{AreGreatest}
use Rattle.config_checks.proofs.backups.Backups.of.Given as goal

abbrev pub invariant-loop-route : goal.invariant-loop-route
invariant-loop-route l = AreGreatest l.backups (take l.route-index l.routes)
