use Rattle.std.proofs.Common.{Option}
use Rattle.net_io.specs.Files.{Told}
use Rattle.job_core.specs.Steps.{OrNoMemory}
use Rattle.job_core.proofs.StepLemmas.{then_go, then_stop, however_told}
use Rattle.why_core.specs.declared.networks.Networks.{Networks}
use Rattle.why_core.specs.Networks.{GivesNetworks}
use Rattle.why_core.specs.Traces.{AreTraces, numbered_for}
use Rattle.why_core.specs.Words.{traces_in}
use Rattle.why_core.proofs.traces.follow.Goals as goal

pub returns-in-Ok-clause-follows : goal.returns-in-Ok-clause-follows
returns-in-Ok-clause-follows g c =
    let told : Option Told = g.F.Files.told c.args.files.now in
    let w = traces_in c.args.asked in
    then_go (λ t r. GivesNetworks t w.old w.new w.links r) (λ t n r. OrNoMemory (AreTraces (numbered_for n w) w) r) told c.in-Ok.networks c.follow_over.result c.in-Ok.ensures.networks (however_told told c.follow_over.ensures)

pub returns-in-Err-clause-follows : goal.returns-in-Err-clause-follows
returns-in-Err-clause-follows g c =
    let told : Option Told = g.F.Files.told c.args.files.now in
    let w = traces_in c.args.asked in
    then_stop {A = Networks} (λ t r. GivesNetworks t w.old w.new w.links r) (λ t n r. OrNoMemory (AreTraces (numbered_for n w) w) r) told c.in-Err.stop c.in-Err.ensures.networks
