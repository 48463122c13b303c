use Rattle.nat_static.specs.Rules.{rule_from_outside, rule_from_inside, outer_from_outside, outer_from_inside}
use Rattle.net_forms.proofs.FormLemmas.{rules_made, tells_by}
use Rattle.net_forms.proofs.compile.compile_rules.Goals as goal

pub returns-clause-rules : goal.returns-clause-rules
returns-clause-rules c =
    let nat = c.args.rules.now in
    let t1 = c.add_pieces.new.diagrams in
    let t2 = c.add_pieces-2.new.diagrams in
    let t3 = c.add_pieces-3.new.diagrams in
    let t4 = c.add_pieces-4.new.diagrams in
    rules_made t1 t2 t3 t4 nat _ c.in_ok-outer_outside.ensures.kept c.in_ok-inside.ensures.kept c.in_ok-outer_inside.ensures.kept
    (tells_by t1 c.in_ok-outside.outside _ (rule_from_outside nat) c.in_ok-outside.ensures.below c.in_ok-outside.ensures.exact c.in_ok-outside_pieces.ensures)
    (tells_by t2 c.in_ok-outer_outside.outer_outside _ (outer_from_outside nat) c.in_ok-outer_outside.ensures.below c.in_ok-outer_outside.ensures.exact c.in_ok-outer_outside_pieces.ensures)
    (tells_by t3 c.in_ok-inside.inside _ (rule_from_inside nat) c.in_ok-inside.ensures.below c.in_ok-inside.ensures.exact c.in_ok-inside_pieces.ensures)
    (tells_by t4 c.in_ok-outer_inside.outer_inside _ (outer_from_inside nat) c.in_ok-outer_inside.ensures.below c.in_ok-outer_inside.ensures.exact c.in_ok-outer_inside_pieces.ensures)
