use Rattle.net_types.proofs.QuestionLaws.{walks_on, loops_longer}
use Rattle.net_types.proofs.laws.loops_last.Goals as goal

pub returns-clause-walks : goal.returns-clause-walks
returns-clause-walks c = walks_on

pub returns-clause-longer : goal.returns-clause-longer
returns-clause-longer c = loops_longer
