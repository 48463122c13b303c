use Rattle.net_types.proofs.QuestionLaws.{one_answer}
use Rattle.net_types.proofs.laws.answers_are_unique.Goals as goal

pub returns : goal.returns
returns c = one_answer
