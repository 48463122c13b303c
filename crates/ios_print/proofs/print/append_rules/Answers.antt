use Rattle.net_types.specs.declared.config.NatKind.TheVariants as nat
use Rattle.net_types.specs.declared.config.NatRule.{NatRule}
use Rattle.ios_print.specs.Print.{rule_row}
use Rattle.ios_print.proofs.Appends.{next_row}
use Rattle.ios_print.proofs.print.append_rules.Goals as goal

-- what stands for an item beyond the end
abbrev none : NatRule
none = record { kind = nat.Plain; local = 0; local_port = 0; global = 0; global_port = 0 }

pub loop-rule-preserved : goal.loop-rule-preserved
loop-rule-preserved c =
    next_row rule_row c.args.rules.now c.loop-rule.rule-index none _ _ _ c.loop-rule-test.true c.in_ok-append_rule.ensures c.loop-rule.invariant
