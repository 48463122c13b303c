use Rattle.ios_print.specs.Print.{rule_words, rule_start}
use Rattle.ios_print.proofs.Appends.{line}
use Rattle.ios_print.proofs.RuleTexts.{rule_spelled}
use Rattle.ios_print.proofs.routes.append_rule.Goals as goal

pub returns : goal.returns
returns c =
    let k = c.args.rule.now.kind in
    let ws = rule_words c.args.rule.now k in
    line _ _ _ _ _ (rule_start k) _ ws (rw c.rule_start.ensures at c.in_ok-append.ensures) c.in_ok-append_sides.ensures c.append-2.ensures (rule_spelled k ws)
