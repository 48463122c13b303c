use Rattle.net_types.proofs.SameWalks.{labels_alike, loops_alike, visits_alike}
use Rattle.net_types.proofs.laws.same_walks_tell.Goals as goal

pub returns-clause-labels : goal.returns-clause-labels
returns-clause-labels c = labels_alike

pub returns-clause-loops : goal.returns-clause-loops
returns-clause-loops c = loops_alike

pub returns-clause-visits : goal.returns-clause-visits
returns-clause-visits c = visits_alike
