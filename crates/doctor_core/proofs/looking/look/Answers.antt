use Rattle.std.proofs.Common.{Option, IfSome, subst}
use Rattle.net_io.specs.Files.{Told}
use Rattle.job_core.proofs.StepLemmas.{then_go, then_stop}
use Rattle.doctor_core.specs.Folders.{GivesTexts}
use Rattle.doctor_core.specs.Job.{LooksOver}
use Rattle.doctor_core.specs.Words.{paths}
use Rattle.doctor_core.proofs.looking.look.Goals as goal

pub returns-in-Ok-clause-job : goal.returns-in-Ok-clause-job
returns-in-Ok-clause-job g c =
    let told : Option Told = g.F.Files.told c.args.files.now in
    let p = paths c.args.asked.now in
    let r = c.look_over.result in
    let rest = subst (λ (o : Option Told). IfSome o (λ t. LooksOver p.new t p c.in-Ok.old r)) c.in-Ok.ensures.same c.look_over.ensures.job in
    then_go (λ t r. GivesTexts t p.old r) (λ t old r. LooksOver p.new t p old r) told c.in-Ok.old r c.in-Ok.ensures.texts rest

pub returns-in-Err-clause-job : goal.returns-in-Err-clause-job
returns-in-Err-clause-job g c =
    let told : Option Told = g.F.Files.told c.args.files.now in
    let p = paths c.args.asked.now in
    then_stop (λ t r. GivesTexts t p.old r) (λ t old r. LooksOver p.new t p old r) told c.in-Err.stop c.in-Err.ensures.texts
