use Rattle.acl_match.proofs.diagram.add_entries.Goals as goal
use Rattle.std.proofs.Common.{◌∙◌}
use Rattle.acl_match.proofs.NumberLemmas.{numbers_end}

pub returns-clause-exact : goal.returns-clause-exact
returns-clause-exact c h =
    let e = c.in_ok-function.ensures.exact h in
    (rw (c.deref.ensures.value, c.in_ok-push.ensures.items) at e) ∙ numbers_end c.entry_numbers.new.diagrams c.add_entry.new.self c.args.entries.now c.in_ok-numbers.numbers.items c.all.result c.end_of.result c.in_ok-end.end c.in_ok-end.ensures.kept c.end_of.ensures c.all.ensures c.in_ok-end.ensures.exact c.in_ok-numbers.ensures.numbers h
