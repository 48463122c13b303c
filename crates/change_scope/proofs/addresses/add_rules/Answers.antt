use Rattle.std.proofs.Common.{subst, take_all}
use Rattle.change_scope.specs.Translated.{AreNamed}
use Rattle.change_scope.proofs.NamedLemmas.{rule_next}
use Rattle.change_scope.proofs.addresses.add_rules.Goals as goal

pub loop-rule-preserved : goal.loop-rule-preserved
loop-rule-preserved c =
    let l = c.loop-rule in
    let o = c.in_ok-add_rule.ensures in
    record {
      named = rule_next l.addresses.keys c.add_rule.new.addresses.keys c.args.rules.now l.rule-index _ c.loop-rule-test.true o.more o.named l.invariant.named;
      more = λ a t. o.more a (l.invariant.more a t);
    }

pub returns-clause-named : goal.returns-clause-named
returns-clause-named c = subst (AreNamed c.loop-rule.addresses.keys) (take_all c.loop-rule.rule-index c.args.rules.now c.loop-rule-test.false) c.loop-rule.invariant.named
