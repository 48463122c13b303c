use Rattle.std.proofs.Common.{Option, IfSome, List, subst}
use Rattle.net_io.specs.Files.{Told}
use Rattle.doctor_warnings.specs.declared.files.TextFile.{TextFile}
use Rattle.job_core.proofs.StepLemmas.{then_go, then_stop}
use Rattle.doctor_core.specs.Folders.{GivesAll, GivesWith}
use Rattle.doctor_core.proofs.reading.read_texts.Goals as goal

pub returns-in-Ok-clause-texts : goal.returns-in-Ok-clause-texts
returns-in-Ok-clause-texts g c =
    let told : Option Told = g.F.Files.told c.args.files.now in
    let folder = c.args.folder.now in
    let r = c.read_with.result in
    let rest = subst (λ (o : Option Told). IfSome o (λ t. GivesWith t folder c.in-Ok.texts r)) c.in-Ok.ensures.same c.read_with.ensures.texts in
    then_go (λ t r. GivesAll t folder r) (λ t (files : List TextFile) r. GivesWith t folder files r) told c.in-Ok.texts r c.in-Ok.ensures.texts rest

pub returns-in-Err-clause-texts : goal.returns-in-Err-clause-texts
returns-in-Err-clause-texts g c =
    let told : Option Told = g.F.Files.told c.args.files.now in
    let folder = c.args.folder.now in
    then_stop (λ t r. GivesAll t folder r) (λ t (files : List TextFile) r. GivesWith t folder files r) told c.in-Err.stop c.in-Err.ensures.texts
