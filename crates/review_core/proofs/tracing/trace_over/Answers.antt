use Rattle.std.proofs.Common.{ℕ, List, Option, IfSome, Ok, Err, subst}
use Rattle.net_io.specs.Files.{Told}
use Rattle.net_types.specs.declared.config.Loaded.{Loaded}
use Rattle.job_core.specs.declared.table.Wires.TheVariants as wires
use Rattle.job_core.specs.Steps.{GivesTable, OrNoMemory}
use Rattle.job_core.proofs.StepLemmas.{then_go, then_stop, however_told}
use Rattle.review_core.specs.Job.{IsTrace}
use Rattle.review_core.proofs.tracing.trace_over.Goals as goal

pub returns-in-Ok-clause-job : goal.returns-in-Ok-clause-job
returns-in-Ok-clause-job g c =
    let told : Option Told = g.F.Files.told c.args.files.now in
    let asked = c.args.asked.now in
    let devices = c.args.devices.items in
    let path = c.as_str-links.result.now in
    let P : List ℕ → List Loaded → List Loaded → Type 0 = λ p xs ys. IfSome told (λ t. GivesTable t p wires.Both xs ys (Ok c.in-Ok.table)) in
    let gives = subst (λ p. P p devices devices) c.as_str-links.ensures (subst (λ xs. P path xs devices) c.deref.ensures.value (subst (λ ys. P path c.deref.result.now ys) c.deref-2.ensures.value c.in-Ok.ensures.table)) in
    then_go (λ t r. GivesTable t asked.links wires.Both devices devices r) (λ t table r. OrNoMemory (IsTrace devices table asked.packet asked.ttl) r) told c.in-Ok.table c.trace_with.result gives (however_told told c.trace_with.ensures)

pub returns-in-Err-clause-job : goal.returns-in-Err-clause-job
returns-in-Err-clause-job g c =
    let told : Option Told = g.F.Files.told c.args.files.now in
    let asked = c.args.asked.now in
    let devices = c.args.devices.items in
    let path = c.as_str-links.result.now in
    let P : List ℕ → List Loaded → List Loaded → Type 0 = λ p xs ys. IfSome told (λ t. GivesTable t p wires.Both xs ys (Err c.in-Err.stop)) in
    let stops = subst (λ p. P p devices devices) c.as_str-links.ensures (subst (λ xs. P path xs devices) c.deref.ensures.value (subst (λ ys. P path c.deref.result.now ys) c.deref-2.ensures.value c.in-Err.ensures.table)) in
    then_stop (λ t r. GivesTable t asked.links wires.Both devices devices r) (λ t table r. OrNoMemory (IsTrace devices table asked.packet asked.ttl) r) told c.in-Err.stop stops
