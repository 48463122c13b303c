use Rattle.std.proofs.Common.{List, Option, IfSome, Err, Vec, Global, subst}
use Rattle.net_io.specs.Files.{Told}
use Rattle.net_types.specs.declared.config.Loaded.{Loaded}
use Rattle.job_core.proofs.StepLemmas.{then_stop}
use Rattle.job_inputs.specs.Folders.{GivesFolder}
use Rattle.review_core.specs.Job.{AsksOver}
use Rattle.review_core.proofs.asking.ask_in_folder.Goals as goal

pub returns-in-Err-clause-job : goal.returns-in-Err-clause-job
returns-in-Err-clause-job g c =
    let told : Option Told = g.F.Files.told c.args.files.now in
    let asked = c.args.asked.now in
    let stops = subst (λ path. IfSome told (λ t. GivesFolder (λ (v : Vec Loaded Global). v.items) t path (Err c.in-Err.stop))) c.as_str.ensures c.in-Err.ensures.devices in
    then_stop {A = List Loaded} (λ t r. GivesFolder (λ (ls : List Loaded). ls) t asked.net r) (λ t ls r. AsksOver t ls asked r) told c.in-Err.stop stops
