use Rattle.std.proofs.lemmas.Result.{IfOk-weaker}
use Rattle.hdr_bits.specs.HeaderBits.{number}
use Rattle.hdr_bits.specs.CubeBits.{IsIn}
use Rattle.ask_query.specs.Reaching.{EndsNamed}
use Rattle.ask_query.proofs.AnswerLemmas.{with_filter}
use Rattle.ask_query.proofs.answers.ending.Goals as goal

pub returns-clause-set : goal.returns-clause-set
returns-clause-set c =
    let q = c.args.question.now in
    IfOk-weaker c.both.result _ _ (λ set made. record {
      below = made.below;
      exact = with_filter c.headers_to.new.table c.filter_set.new.table c.both.new.table c.in_ok-there.there c.in_ok-filter.filter set (EndsNamed c.args.table.now c.args.ends.now q.to) (λ h. IsIn q.filter (number h)) c.in_ok-filter.ensures.kept c.in_ok-there.ensures.set.below c.in_ok-there.ensures.set.exact c.in_ok-filter.ensures.set.exact made.exact;
    }) c.both.ensures.set
