use Rattle.std.proofs.Common.{subst}
use Rattle.std.specs.Prelude.{IfOk}
use Rattle.net_load.specs.declared.numbering.Numbered.{Numbered}
use Rattle.review_core.specs.Job.{IsSummaryOf}
use Rattle.review_core.proofs.generated.generated.Goals as goal

pub returns : goal.returns
returns g c = subst (λ (n : Numbered). IfOk c.summary_of.result (IsSummaryOf n)) c.in_ok-numbered.ensures c.summary_of.ensures
