use Rattle.std.proofs.Common.{ℕ, List, Option, subst}
use Rattle.std.specs.Prelude.{IfSome}
use Rattle.net_io.specs.Files.{Told, content}
use Rattle.job_core.proofs.StepLemmas.{then_go, then_stop}
use Rattle.view_core.specs.Reports.{GivesReport}
use Rattle.audit_view.specs.Views.{ViewsWith}
use Rattle.audit_view.proofs.top.show.Goals as goal

pub returns-in-Ok-clause-shows : goal.returns-in-Ok-clause-shows
returns-in-Ok-clause-shows g c =
    let told : Option Told = g.F.Files.told c.args.files.now in
    let path = c.args.path.now in
    let m = c.args.manner in
    let net = c.args.net.now in
    let read = subst (λ (b : List ℕ). IfSome (g.F.Files.told c.read_report_file.new.files) (λ t. ViewsWith t m path net b c.show_with.result)) c.deref.ensures.value c.show_with.ensures.shows in
    let views = subst (λ (o : Option Told). IfSome o (λ t. ViewsWith t m path net c.in-Ok.bytes.items c.show_with.result)) c.in-Ok.ensures.same read in
    then_go (λ t r. GivesReport (λ (b : List ℕ). b) path (content t path) r) (λ t b r. ViewsWith t m path net b r) told c.in-Ok.bytes.items c.show_with.result c.in-Ok.ensures.bytes views

pub returns-in-Err-clause-shows : goal.returns-in-Err-clause-shows
returns-in-Err-clause-shows g c =
    let told : Option Told = g.F.Files.told c.args.files.now in
    let path = c.args.path.now in
    then_stop {A = List ℕ} (λ t r. GivesReport (λ (b : List ℕ). b) path (content t path) r) (λ t b r. ViewsWith t c.args.manner path c.args.net.now b r) told c.in-Err.stop c.in-Err.ensures.bytes
