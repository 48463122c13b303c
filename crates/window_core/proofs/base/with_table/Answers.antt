use Rattle.std.proofs.Common.{◌≡◌, List, Option, IfSome, Result, Ok, ap, subst}
use Rattle.net_io.specs.Files.{Told}
use Rattle.net_types.specs.declared.config.Loaded.{Loaded}
use Rattle.topo_links.specs.declared.table.LinkTable.{LinkTable}
use Rattle.job_core.specs.declared.stop.Stop.{Stop}
use Rattle.job_core.specs.declared.table.Wires.TheVariants as wires
use Rattle.job_core.specs.Steps.{GivesTable}
use Rattle.job_core.proofs.StepLemmas.{then_go, however_told}
use Rattle.window_core.specs.declared.base.Base.{Base}
use Rattle.window_core.proofs.base.with_table.Goals as goal

abbrev made : List Loaded → LinkTable → Base
made devices table = record { devices = devices; table = table }

abbrev IsMade : List Loaded → LinkTable → Result Base Stop → Type 0
IsMade devices table r = r ≡ Ok (made devices table)

pub returns-in-Ok-clause-base : goal.returns-in-Ok-clause-base
returns-in-Ok-clause-base g c =
    let told : Option Told = g.F.Files.told c.args.files.now in
    let devices = c.args.devices.items in
    let links = c.args.links.now in
    let table = c.in-Ok.table in
    let P : List Loaded → List Loaded → Type 0 = λ xs ys. IfSome told (λ t. GivesTable t links wires.Both xs ys (Ok table)) in
    let gives = subst (λ xs. P xs devices) c.deref.ensures.value (subst (λ ys. P c.deref.result.now ys) c.deref-2.ensures.value c.in-Ok.ensures.table) in
    let is : IsMade devices table (Ok (made c.new.result table)) = ap (λ ds. Ok (made ds table)) c.new.ensures in
    then_go (λ t r. GivesTable t links wires.Both devices devices r) (λ t x r. IsMade devices x r) told table (Ok (made c.new.result table)) gives (however_told told is)
