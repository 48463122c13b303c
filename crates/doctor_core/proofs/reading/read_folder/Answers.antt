use Rattle.std.proofs.Common.{List, Option, IfSome, ℕ, Global, map, subst}
use Rattle.std.specs.Prelude.{string_bytes}
use Rattle.net_io.specs.Files.{Told}
use Rattle.job_core.proofs.StepLemmas.{then_go}
use Rattle.doctor_core.specs.Folders.{GivesFiles, GivesNames}
use Rattle.doctor_core.proofs.reading.read_folder.Goals as goal

pub returns-in-Ok-clause-texts : goal.returns-in-Ok-clause-texts
returns-in-Ok-clause-texts g c =
    let told : Option Told = g.F.Files.told c.args.files.now in
    let folder = c.args.folder.now in
    let r = c.read_files.result in
    let names = map (string_bytes {Z = Global}) c.in-Ok.names.items in
    let texts = rw c.deref.ensures.value at c.read_files.ensures.texts in
    let rest = subst (λ (o : Option Told). IfSome o (λ t. GivesFiles t folder names r)) c.in-Ok.ensures.same texts in
    then_go (λ t r. GivesNames (λ (ns : List (List ℕ)). ns) t folder r) (λ t (ns : List (List ℕ)) r. GivesFiles t folder ns r) told names r c.in-Ok.ensures.names rest
