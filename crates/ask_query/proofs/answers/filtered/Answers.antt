use Rattle.std.proofs.Common.{subst, take_all}
use Rattle.set_walk.proofs.SetLemmas.{keeps_same, keeps_then}
use Rattle.ask_query.specs.Breaking.{HaveFilters}
use Rattle.ask_query.proofs.AnswerLemmas.{filters_none, filters_more}
use Rattle.ask_query.proofs.answers.filtered.Goals as goal

pub loop-question-init : goal.loop-question-init
loop-question-init c = record {
  kept = keeps_same c.args.table.now;
  below = c.nothing-all.ensures.below;
  filters = filters_none c.args.table.now c.nothing-all.result;
}

pub loop-question-preserved : goal.loop-question-preserved
loop-question-preserved c =
    let all = c.in_ok-all.ensures in
    record {
      kept = keeps_then c.args.table.now c.loop-question.table c.with_filter.new.table c.loop-question.invariant.kept all.kept;
      below = all.below;
      filters = filters_more c.loop-question.table c.with_filter.new.table c.loop-question.all c.in_ok-all.all c.args.questions.now c.loop-question.question-index c.question-item.result c.loop-question-test.true c.question-item.is c.loop-question.invariant.filters all.filter all.more;
    }

pub returns-clause-filters : goal.returns-clause-filters
returns-clause-filters c = subst (λ qs. HaveFilters c.loop-question.table c.loop-question.all qs) (take_all c.loop-question.question-index c.args.questions.now c.loop-question-test.false) c.loop-question.invariant.filters
