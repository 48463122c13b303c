use Rattle.set_walk.proofs.SetLemmas.{keeps_then}
use Rattle.ask_query.proofs.answering.Answering.answers_in.Goals as goal

pub give_back-requires : goal.give_back-requires
give_back-requires g c = keeps_then g.K.Base.base c.in_ok-table.table c.walked_in-found.new.table c.in_ok-table.ensures c.walked_in-found.ensures.kept
