use Rattle.std.proofs.Common.{Option, List, ℕ}
use Rattle.net_io.specs.Files.{Told}
use Rattle.job_core.proofs.StepLemmas.{however_told, then_go, then_stop}
use Rattle.doctor_core.specs.Folders.{GivesOthers, IsFolder}
use Rattle.doctor_core.proofs.reading.read_with.Goals as goal

pub returns-in-Ok-clause-texts : goal.returns-in-Ok-clause-texts
returns-in-Ok-clause-texts g c =
    let told : Option Told = g.F.Files.told c.args.files.now in
    let folder = c.args.folder.now in
    then_go (λ t r. GivesOthers t folder r) (λ t (others : List (List ℕ)) r. IsFolder folder c.args.texts others r) told c.in-Ok.others c.folder_of.result c.in-Ok.ensures.others (however_told told c.folder_of.ensures.folder)

pub returns-in-Err-clause-texts : goal.returns-in-Err-clause-texts
returns-in-Err-clause-texts g c =
    let told : Option Told = g.F.Files.told c.args.files.now in
    let folder = c.args.folder.now in
    then_stop (λ t r. GivesOthers t folder r) (λ t (others : List (List ℕ)) r. IsFolder folder c.args.texts others r) told c.in-Err.stop c.in-Err.ensures.others
