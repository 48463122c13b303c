use Rattle.report_groups.proofs.LeastLemmas.{all_least}
use Rattle.report_groups.proofs.laws.least_headers_are_least.Goals as goal

pub returns : goal.returns
returns c = all_least
