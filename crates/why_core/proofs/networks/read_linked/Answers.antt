use Rattle.std.proofs.Common.{List, Option, IfSome, Ok, Err, refl, subst}
use Rattle.net_io.specs.Files.{Told}
use Rattle.net_types.specs.declared.config.Loaded.{Loaded}
use Rattle.topo_links.specs.declared.table.LinkTable.{LinkTable}
use Rattle.job_core.specs.declared.table.Wires.TheVariants as wires
use Rattle.job_core.specs.Steps.{GivesTable}
use Rattle.job_core.proofs.StepLemmas.{then_go, then_stop, however_told}
use Rattle.why_core.specs.Networks.{AreNetworks}
use Rattle.why_core.proofs.networks.read_linked.Goals as goal

pub returns-in-Ok-clause-networks : goal.returns-in-Ok-clause-networks
returns-in-Ok-clause-networks g c =
    let told : Option Told = g.F.Files.told c.args.files.now in
    let links = c.args.links.now in
    let old = c.args.old.items in
    let new = c.args.new.items in
    let P : List Loaded → List Loaded → Type 0 = λ xs ys. IfSome told (λ t. GivesTable t links wires.Both xs ys (Ok c.in-Ok.table)) in
    let gives = subst (λ xs. P xs new) c.deref.ensures.value (subst (λ ys. P c.deref.result.now ys) c.deref-2.ensures.value c.in-Ok.ensures.table) in
    then_go (λ t r. GivesTable t links wires.Both old new r) (λ t table r. AreNetworks old new table r) told c.in-Ok.table (Ok (record { old = c.args.old; new = c.args.new; links = c.in-Ok.table })) gives (however_told told (refl, refl, refl))

pub returns-in-Err-clause-networks : goal.returns-in-Err-clause-networks
returns-in-Err-clause-networks g c =
    let told : Option Told = g.F.Files.told c.args.files.now in
    let links = c.args.links.now in
    let old = c.args.old.items in
    let new = c.args.new.items in
    let P : List Loaded → List Loaded → Type 0 = λ xs ys. IfSome told (λ t. GivesTable t links wires.Both xs ys (Err c.in-Err.stop)) in
    let stops = subst (λ xs. P xs new) c.deref.ensures.value (subst (λ ys. P c.deref.result.now ys) c.deref-2.ensures.value c.in-Err.ensures.table) in
    then_stop {A = LinkTable} (λ t r. GivesTable t links wires.Both old new r) (λ t table r. AreNetworks old new table r) told c.in-Err.stop stops
