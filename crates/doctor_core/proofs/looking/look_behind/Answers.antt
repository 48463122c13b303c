use Rattle.std.proofs.Common.{Option, subst}
use Rattle.net_io.specs.Files.{Told}
use Rattle.job_core.proofs.StepLemmas.{however_told, then_go}
use Rattle.doctor_core.specs.Folders.{GivesTextAt}
use Rattle.doctor_core.specs.Job.{IsLook, with_links}
use Rattle.doctor_core.proofs.looking.look_behind.Goals as goal

pub returns-in-Ok-clause-job : goal.returns-in-Ok-clause-job
returns-in-Ok-clause-job g c =
    let told : Option Told = g.F.Files.told c.args.files.now in
    let r = c.report_of.result in
    let look = subst (λ s. IsLook c.args.json s r) c.with_links.ensures c.report_of.ensures.job in
    then_go (λ t r. GivesTextAt t c.args.path.now r) (λ t new_links r. IsLook c.args.json (with_links c.args.subject new_links) r) told c.in-Ok.new_links r c.in-Ok.ensures.text (however_told told look)
