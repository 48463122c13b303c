use Rattle.nat_static.proofs.compiled.add_rules.Goals as goal
use Rattle.std.proofs.Common.{◌∙◌, sym, get_or}
use Rattle.std.proofs.lemmas.List.{get_or_default}
use Rattle.net_types.specs.declared.config.NatRule.{NatRule}
use Rattle.net_types.specs.declared.config.NatKind.TheVariants.{Plain}
use Rattle.nat_static.proofs.RuleLemmas.{rules_skip, rules_more}

abbrev of_nothing : NatRule
of_nothing = record { kind = Plain; local = 0; local_port = 0; global = 0; global_port = 0 }

pub loop-i-preserved-then-not-is_in_group : goal.loop-i-preserved-then-not-is_in_group
loop-i-preserved-then-not-is_in_group c =
    let rules = c.args.rules.now in
    let r = get_or rules c.loop-i.i of_nothing in
    let e = get_or_default rules c.loop-i.i of_nothing r c.loop-i-test.true in
    rules_skip c.args.group c.args.direction rules c.args.pieces.now.items c.loop-i.pieces.items c.loop-i.i r c.loop-i-test.true e (sym c.is_in_group.ensures ∙ c.if-not-is_in_group.true) c.loop-i.invariant

pub loop-i-preserved : goal.loop-i-preserved
loop-i-preserved c =
    let rules = c.args.rules.now in
    let r = get_or rules c.loop-i.i of_nothing in
    let e = get_or_default rules c.loop-i.i of_nothing r c.loop-i-test.true in
    rw c.in_ok-push.ensures.items (rules_more c.args.group c.args.direction rules c.args.pieces.now.items c.loop-i.pieces.items c.loop-i.i r (record { cube = c.rule_cube-cube.result; value = c.in_ok-value.value }) c.loop-i-test.true e (sym c.is_in_group.ensures ∙ c.if-not-is_in_group.false) c.in_ok-value.ensures c.rule_cube-cube.ensures c.loop-i.invariant)
