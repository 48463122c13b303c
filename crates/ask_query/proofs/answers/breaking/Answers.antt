use Rattle.std.proofs.Common.{rules}
use Rattle.std.proofs.lemmas.Result.{IfOk-weaker}
use Rattle.indexmap.specs.IndexMap.{get}
use Rattle.net_types.specs.World.{same_place}
use Rattle.net_view.specs.Borrowed.{world_of}
use Rattle.ask_query.proofs.AnswerLemmas.{walks_kept}
use Rattle.ask_query.proofs.answers.breaking.Goals as goal

pub returns-in-NoLoop-clause-walks : goal.returns-in-NoLoop-clause-walks
returns-in-NoLoop-clause-walks c =
    IfOk-weaker c.filtered_loops.result _ _ (λ set made. walks_kept (world_of c.args.asked.now.net.now.world) c.args.asked.now.ttl c.args.table.now c.filtered_loops.new.table c.args.asked.now.domain (get same_place c.args.walks.now) c.filtered_loops.ensures.kept c.requires.asked.domain c.requires.walks) c.filtered_loops.ensures.set

pub returns-in-Reach-clause-set : goal.returns-in-Reach-clause-set
returns-in-Reach-clause-set c = IfOk-weaker c.not_reaching.result _ _ (λ x made. search rules) c.not_reaching.ensures.set

pub returns-in-Isolate-clause-set : goal.returns-in-Isolate-clause-set
returns-in-Isolate-clause-set c = IfOk-weaker c.reaching.result _ _ (λ x made. search rules) c.reaching.ensures.set

pub returns-in-NoLoop-clause-set : goal.returns-in-NoLoop-clause-set
returns-in-NoLoop-clause-set c = IfOk-weaker c.filtered_loops.result _ _ (λ x made. search rules) c.filtered_loops.ensures.set
