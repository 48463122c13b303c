use Rattle.std.proofs.Common.{List, Option, subst}
use Rattle.net_io.specs.Files.{Told}
use Rattle.net_types.specs.declared.config.Loaded.{Loaded}
use Rattle.job_core.specs.Steps.{OrNoMemory}
use Rattle.job_inputs.specs.Folders.{GivesFolder}
use Rattle.job_core.proofs.StepLemmas.{then_go, however_told}
use Rattle.audit_core.specs.Audits.{IsAudit}
use Rattle.audit_core.proofs.audits.audit_network.Goals as goal

pub returns-in-Ok-clause-job : goal.returns-in-Ok-clause-job
returns-in-Ok-clause-job g c =
    let told : Option Told = g.F.Files.told c.args.files.now in
    let written = subst (λ (ls : List Loaded). OrNoMemory (IsAudit ls) c.audits.result) c.deref.ensures.value c.audits.ensures in
    then_go (λ t r. GivesFolder (λ (ls : List Loaded). ls) t c.args.net.now r) (λ t ls r. OrNoMemory (IsAudit ls) r) told c.in-Ok.devices.items c.audits.result c.in-Ok.ensures.devices (however_told told written)
