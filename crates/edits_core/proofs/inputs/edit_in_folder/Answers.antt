use Rattle.std.proofs.Common.{List, Option, IfSome, subst}
use Rattle.net_io.specs.Files.{Told}
use Rattle.net_types.specs.declared.config.Loaded.{Loaded}
use Rattle.job_core.proofs.StepLemmas.{then_go}
use Rattle.job_inputs.specs.Folders.{GivesFolder}
use Rattle.edits_core.specs.Job.{EditsOver}
use Rattle.edits_core.specs.Words.{paths}
use Rattle.edits_core.proofs.inputs.edit_in_folder.Goals as goal

pub returns-in-Ok-clause-job : goal.returns-in-Ok-clause-job
returns-in-Ok-clause-job g c =
    let told : Option Told = g.F.Files.told c.args.files.now in
    let p = paths c.args.asked.now in
    let r = c.edit_over.result in
    let over = subst (λ (ds : List Loaded). IfSome (g.F.Files.told c.read_folder.new.files) (λ t. EditsOver t ds p r)) c.new.ensures c.edit_over.ensures.job in
    let rest = subst (λ (o : Option Told). IfSome o (λ t. EditsOver t c.in-Ok.devices.items p r)) c.in-Ok.ensures.same over in
    then_go (λ t r. GivesFolder (λ (ds : List Loaded). ds) t p.net r) (λ t ds r. EditsOver t ds p r) told c.in-Ok.devices.items r c.in-Ok.ensures.devices rest
