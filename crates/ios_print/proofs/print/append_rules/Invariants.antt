use Rattle.std.proofs.Common.{◌≡◌, ◌++◌, map, drop}
use Rattle.std.specs.Prelude.{flat_map}
use Rattle.net_text.specs.Texts.{spell}
use Rattle.ios_print.specs.Print.{rule_row}
use Rattle.ios_print.proofs.print.append_rules.Given as goal

abbrev pub invariant-loop-rule : goal.invariant-loop-rule
invariant-loop-rule l = l.out.items ++ flat_map spell (map rule_row (drop l.rule-index l.rules)) ≡ l.initial.out.items ++ flat_map spell (map rule_row l.rules)
