use Rattle.std.proofs.Common.{◌≡◌, filter, take}
use Rattle.config_checks.specs.Findings.{is_turned}
use Rattle.config_checks.proofs.translation.Facing.turned.Given as goal

abbrev pub invariant-loop-address : goal.invariant-loop-address
invariant-loop-address l = l.found.items ≡ filter (is_turned l.self.side l.self.config.now) (take l.address-index l.addresses)
