use Rattle.std.proofs.Common.{◌≡◌, [], take}
use Rattle.std.specs.Prelude.{fold}
use Rattle.config_checks.specs.Findings.{host_of, once}
use Rattle.config_checks.proofs.translation.hosts.Given as goal

abbrev pub invariant-loop-rule : goal.invariant-loop-rule
invariant-loop-rule l = l.addresses.keys ≡ fold (λ xs r. once xs (host_of l.side r)) [] (take l.rule-index l.config.nat)
