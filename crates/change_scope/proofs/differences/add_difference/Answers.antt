use Rattle.change_scope.proofs.DifferenceLemmas.{keeps_then, with_difference}
use Rattle.change_scope.proofs.differences.add_difference.Goals as goal

pub returns-clause-agree : goal.returns-clause-agree
returns-clause-agree c =
    let f = c.args.table.now in
    let g = c.difference.new.self in
    let k = c.by_destination.new.self in
    with_difference f g k c.first_of.new.self c.args.set c.in_ok-different.different c.in_ok-reached.reached c.in_ok-all.all (keeps_then f g k c.in_ok-different.ensures.kept c.in_ok-reached.ensures.kept) c.requires.set c.in_ok-reached.ensures.exact c.in_ok-all.ensures.exact c.args.a c.args.b c.in_ok-different.ensures.exact
