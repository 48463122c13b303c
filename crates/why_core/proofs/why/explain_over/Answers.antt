use Rattle.std.proofs.Common.{ℕ, List, Option, subst}
use Rattle.net_io.specs.Files.{Told, content}
use Rattle.job_core.proofs.StepLemmas.{then_go, then_stop, however_told}
use Rattle.view_core.specs.Reports.{GivesReport}
use Rattle.why_core.specs.Why.{ExplainsBytes, numbered_of}
use Rattle.why_core.specs.Words.{why_in}
use Rattle.why_core.proofs.why.explain_over.Goals as goal

pub returns-in-Ok-clause-explains : goal.returns-in-Ok-clause-explains
returns-in-Ok-clause-explains g c =
    let told : Option Told = g.F.Files.told c.args.files.now in
    let w = why_in c.args.asked in
    let n = numbered_of c.args.networks in
    let r = c.explain_bytes.result in
    let explains = subst (λ (b : List ℕ). ExplainsBytes n w b r) c.deref.ensures.value c.explain_bytes.ensures.explains in
    then_go (λ t r. GivesReport (λ (b : List ℕ). b) w.report (content t w.report) r) (λ t b r. ExplainsBytes n w b r) told c.in-Ok.bytes.items r c.in-Ok.ensures.bytes (however_told told explains)

pub returns-in-Err-clause-explains : goal.returns-in-Err-clause-explains
returns-in-Err-clause-explains g c =
    let told : Option Told = g.F.Files.told c.args.files.now in
    let w = why_in c.args.asked in
    then_stop {A = List ℕ} (λ t r. GivesReport (λ (b : List ℕ). b) w.report (content t w.report) r) (λ t b r. ExplainsBytes (numbered_of c.args.networks) w b r) told c.in-Err.stop c.in-Err.ensures.bytes
