use Rattle.net_types.proofs.QuestionLaws.{reaches_by_label}
use Rattle.net_types.proofs.laws.reaches_by_label.Goals as goal

pub returns : goal.returns
returns c = reaches_by_label
