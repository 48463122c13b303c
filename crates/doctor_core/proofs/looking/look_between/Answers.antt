use Rattle.std.proofs.Common.{Option, IfSome, Some, subst}
use Rattle.net_io.specs.Files.{Told}
use Rattle.job_core.proofs.StepLemmas.{then_go, then_stop}
use Rattle.doctor_core.specs.Folders.{GivesTexts}
use Rattle.doctor_core.specs.Job.{LooksWith}
use Rattle.doctor_core.specs.Words.{paths}
use Rattle.doctor_core.proofs.looking.look_between.Goals as goal

pub returns-in-Ok-clause-job : goal.returns-in-Ok-clause-job
returns-in-Ok-clause-job g c =
    let told : Option Told = g.F.Files.told c.args.files.now in
    let p = paths c.args.asked.now in
    let r = c.look_with.result in
    let rest = subst (λ (o : Option Told). IfSome o (λ t. LooksWith t p c.args.old (Some c.in-Ok.new) r)) c.in-Ok.ensures.same c.look_with.ensures.job in
    then_go (λ t r. GivesTexts t c.args.path.now r) (λ t new r. LooksWith t p c.args.old (Some new) r) told c.in-Ok.new r c.in-Ok.ensures.texts rest

pub returns-in-Err-clause-job : goal.returns-in-Err-clause-job
returns-in-Err-clause-job g c =
    let told : Option Told = g.F.Files.told c.args.files.now in
    let p = paths c.args.asked.now in
    then_stop (λ t r. GivesTexts t c.args.path.now r) (λ t new r. LooksWith t p c.args.old (Some new) r) told c.in-Err.stop c.in-Err.ensures.texts
