use Rattle.std.proofs.Common.{List, Option, IfSome, Ok, Err, subst}
use Rattle.net_io.specs.Files.{Told}
use Rattle.net_types.specs.declared.config.Loaded.{Loaded}
use Rattle.job_core.proofs.StepLemmas.{then_go, then_stop}
use Rattle.job_inputs.specs.Folders.{GivesFolder}
use Rattle.why_core.specs.Networks.{GivesBoth}
use Rattle.why_core.proofs.networks.read_networks.Goals as goal

pub returns-in-Ok-clause-networks : goal.returns-in-Ok-clause-networks
returns-in-Ok-clause-networks g c =
    let told : Option Told = g.F.Files.told c.args.files.now in
    let r = c.read_both.result in
    let rest = subst (λ (o : Option Told). IfSome o (λ t. GivesBoth t c.args.new.now c.args.links.now c.in-Ok.devices.items r)) c.in-Ok.ensures.same c.read_both.ensures.networks in
    then_go (λ t r. GivesFolder (λ (ls : List Loaded). ls) t c.args.old.now r) (λ t ls r. GivesBoth t c.args.new.now c.args.links.now ls r) told c.in-Ok.devices.items r c.in-Ok.ensures.devices rest

pub returns-in-Err-clause-networks : goal.returns-in-Err-clause-networks
returns-in-Err-clause-networks g c =
    let told : Option Told = g.F.Files.told c.args.files.now in
    then_stop {A = List Loaded} (λ t r. GivesFolder (λ (ls : List Loaded). ls) t c.args.old.now r) (λ t ls r. GivesBoth t c.args.new.now c.args.links.now ls r) told c.in-Err.stop c.in-Err.ensures.devices
