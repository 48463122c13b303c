use Rattle.std.proofs.Common.{List, Option, IfSome, Ok, subst}
use Rattle.net_io.specs.Files.{Told}
use Rattle.net_types.specs.declared.config.Loaded.{Loaded}
use Rattle.job_core.specs.declared.table.Wires.TheVariants as wires
use Rattle.job_core.specs.Steps.{GivesTable}
use Rattle.job_core.proofs.StepLemmas.{then_go}
use Rattle.edits_core.specs.Job.{EditsWith}
use Rattle.edits_core.specs.Words.{paths}
use Rattle.edits_core.proofs.inputs.edit_over.Goals as goal

pub returns-in-Ok-clause-job : goal.returns-in-Ok-clause-job
returns-in-Ok-clause-job g c =
    let told : Option Told = g.F.Files.told c.args.files.now in
    let p = paths c.args.asked.now in
    let devices = c.args.devices in
    let r = c.edit_with.result in
    let gives = subst (λ (ds : List Loaded). IfSome told (λ t. GivesTable t p.links wires.Both ds ds (Ok c.in-Ok.table))) c.as_slice-both.ensures c.in-Ok.ensures.table in
    let rest = subst (λ (o : Option Told). IfSome o (λ t. EditsWith t devices c.in-Ok.table p r)) c.in-Ok.ensures.same c.edit_with.ensures.job in
    then_go (λ t r. GivesTable t p.links wires.Both devices devices r) (λ t table r. EditsWith t devices table p r) told c.in-Ok.table r gives rest
