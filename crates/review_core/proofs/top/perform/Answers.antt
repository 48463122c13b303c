use Rattle.std.proofs.Common.{Option, IfSome, subst}
use Rattle.net_io.specs.Files.{Told}
use Rattle.review_core.specs.Job.{Reads}
use Rattle.review_core.proofs.top.perform.Goals as goal

pub returns-in-Read-clause-job : goal.returns-in-Read-clause-job
returns-in-Read-clause-job g c =
    let told : Option Told = g.F.Files.told c.args.files.now in
    rw c.in-Read.is (subst (λ net. IfSome told (λ t. Reads t net c.read_network.result)) c.as_str.ensures c.read_network.ensures.job)
