use Rattle.std.proofs.Common.{Option, IfSome, subst}
use Rattle.net_io.specs.Files.{Told}
use Rattle.job_core.proofs.StepLemmas.{then_go, then_stop}
use Rattle.why_core.specs.declared.networks.Networks.{Networks}
use Rattle.why_core.specs.Networks.{GivesNetworks}
use Rattle.why_core.specs.Why.{ExplainsOver, numbered_of}
use Rattle.why_core.specs.Words.{why_in}
use Rattle.why_core.proofs.why.explain.Goals as goal

pub returns-in-Ok-clause-explains : goal.returns-in-Ok-clause-explains
returns-in-Ok-clause-explains g c =
    let told : Option Told = g.F.Files.told c.args.files.now in
    let w = why_in c.args.asked in
    let r = c.explain_over.result in
    let rest = subst (λ (o : Option Told). IfSome o (λ t. ExplainsOver t (numbered_of c.in-Ok.networks) w r)) c.in-Ok.ensures.same c.explain_over.ensures.explains in
    then_go (λ t r. GivesNetworks t w.old w.new w.links r) (λ t n r. ExplainsOver t (numbered_of n) w r) told c.in-Ok.networks r c.in-Ok.ensures.networks rest

pub returns-in-Err-clause-explains : goal.returns-in-Err-clause-explains
returns-in-Err-clause-explains g c =
    let told : Option Told = g.F.Files.told c.args.files.now in
    let w = why_in c.args.asked in
    then_stop {A = Networks} (λ t r. GivesNetworks t w.old w.new w.links r) (λ t n r. ExplainsOver t (numbered_of n) w r) told c.in-Err.stop c.in-Err.ensures.networks
