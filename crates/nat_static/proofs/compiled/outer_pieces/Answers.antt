use Rattle.nat_static.proofs.compiled.outer_pieces.Goals as goal
use Rattle.nat_static.proofs.RuleLemmas.{outer_kind}

pub returns : goal.returns
returns c = outer_kind c.args.direction c.args.rules.now c.new-pieces.result.items c.add_rules.new.pieces.items c.new-pieces.ensures.items c.in_ok-add_rules.ensures
