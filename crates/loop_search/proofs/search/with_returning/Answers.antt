use Rattle.std.proofs.Common.{rules}
use Rattle.std.proofs.lemmas.Result.{IfOk-weaker}
use Rattle.set_walk.proofs.SetLemmas.{keeps_then}
use Rattle.loop_search.proofs.WholeLemmas.{whole_kept}
use Rattle.loop_search.proofs.search.with_returning.Goals as goal

pub returning_by-requires-clause-net : goal.returning_by-requires-clause-net
returning_by-requires-clause-net c = whole_kept c.args.table.now c.without.new.table c.args.net.now (keeps_then c.args.table.now c.both.new.table c.without.new.table c.in_ok-asked-in-Go.ensures.kept c.in_ok-rest-in-Go.ensures.kept) c.requires.net

pub returns-in_ok-back-in-Go-clause-set : goal.returns-in_ok-back-in-Go-clause-set
returns-in_ok-back-in-Go-clause-set c = IfOk-weaker c.either.result _ _ (λ x made. search rules) c.either.ensures.set
