use Rattle.nat_static.proofs.compiled.rule_pieces.Goals as goal
use Rattle.nat_static.proofs.RuleLemmas.{both_kinds}

pub returns : goal.returns
returns c =
    both_kinds c.args.direction c.args.rules.now c.in_ok-pieces.pieces.items c.add_rules.new.pieces.items c.add_rules-2.new.pieces.items c.in_ok-pieces.ensures.items c.in_ok-add_rules.ensures c.in_ok-add_rules-2.ensures
