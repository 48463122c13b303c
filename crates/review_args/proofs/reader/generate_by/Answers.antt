use Rattle.review_args.proofs.Asked.{with_number}
use Rattle.review_args.proofs.reader.generate_by.Goals as goal

pub returns-clause-asked : goal.returns-clause-asked
returns-clause-asked c = with_number _ _ _ _ c.in-Some.ensures.value c.making.ensures.asked
