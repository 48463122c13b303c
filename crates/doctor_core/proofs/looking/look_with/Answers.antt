use Rattle.std.proofs.Common.{Option, IfSome, subst}
use Rattle.net_io.specs.Files.{Told}
use Rattle.job_core.proofs.StepLemmas.{then_go}
use Rattle.doctor_core.specs.Folders.{GivesTextAt}
use Rattle.doctor_core.specs.Job.{LooksBehind, subject_of}
use Rattle.doctor_core.specs.Words.{paths}
use Rattle.doctor_core.proofs.looking.look_with.Goals as goal

pub returns-in-Ok-clause-job : goal.returns-in-Ok-clause-job
returns-in-Ok-clause-job g c =
    let told : Option Told = g.F.Files.told c.args.files.now in
    let p = paths c.args.asked.now in
    let r = c.look_by.result in
    let rest = subst (λ (o : Option Told). IfSome o (λ t. LooksBehind p.json p.new_links t (subject_of p c.args.old c.args.new c.in-Ok.links) r)) c.in-Ok.ensures.same c.look_by.ensures.job in
    then_go (λ t r. GivesTextAt t p.links r) (λ t links r. LooksBehind p.json p.new_links t (subject_of p c.args.old c.args.new links) r) told c.in-Ok.links r c.in-Ok.ensures.text rest
