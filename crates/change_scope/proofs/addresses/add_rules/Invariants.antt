use Rattle.std.proofs.Common.{take}
use Rattle.change_scope.specs.Translated.{AreNamed, HasMore}
use Rattle.change_scope.proofs.addresses.add_rules.Given as goal

abbrev pub invariant-loop-rule : goal.invariant-loop-rule
invariant-loop-rule l = record {
  named : AreNamed l.addresses.keys (take l.rule-index l.rules);
  more : HasMore l.fn.addresses.keys l.addresses.keys;
}
