use Rattle.std.proofs.Common.{ℕ, List, Option, subst}
use Rattle.net_io.specs.Files.{Told, content}
use Rattle.job_core.proofs.StepLemmas.{then_go, then_stop, however_told}
use Rattle.view_core.specs.Reports.{GivesReport}
use Rattle.view_core.specs.Views.{Views}
use Rattle.view_core.proofs.top.show.Goals as goal

pub returns-in-Ok-clause-shows : goal.returns-in-Ok-clause-shows
returns-in-Ok-clause-shows g c =
    let told : Option Told = g.F.Files.told c.args.files.now in
    let path = c.args.path.now in
    let views = subst (λ (b : List ℕ). Views c.args.manner.now path b c.view_of.result) c.deref.ensures.value c.view_of.ensures.views in
    then_go (λ t r. GivesReport (λ (b : List ℕ). b) path (content t path) r) (λ t b r. Views c.args.manner.now path b r) told c.in-Ok.bytes.items c.view_of.result c.in-Ok.ensures.bytes (however_told told views)

pub returns-in-Err-clause-shows : goal.returns-in-Err-clause-shows
returns-in-Err-clause-shows g c =
    let told : Option Told = g.F.Files.told c.args.files.now in
    let path = c.args.path.now in
    then_stop {A = List ℕ} (λ t r. GivesReport (λ (b : List ℕ). b) path (content t path) r) (λ t b r. Views c.args.manner.now path b r) told c.in-Err.stop c.in-Err.ensures.bytes
