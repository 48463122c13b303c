use Rattle.review_args.proofs.Asked.{with_number}
use Rattle.review_args.proofs.reader.trace_within.Goals as goal

pub returns-clause-asked : goal.returns-clause-asked
returns-clause-asked c = with_number _ _ _ _ c.in-Some.ensures.value c.tracing.ensures.asked
