use Rattle.std.proofs.Common.{ℕ, List, Option, subst}
use Rattle.std.specs.Prelude.{IfSome, option_map}
use Rattle.net_io.specs.Files.{Told, content}
use Rattle.job_core.proofs.StepLemmas.{then_go, then_stop}
use Rattle.job_core.specs.Steps.{GivesBytes}
use Rattle.answer_view.specs.Asked.{asked_in}
use Rattle.answer_view.specs.Views.{ShowsFor}
use Rattle.answer_view.proofs.top.show.Goals as goal

pub returns-in-Ok-clause-shows : goal.returns-in-Ok-clause-shows
returns-in-Ok-clause-shows g c =
    let told : Option Told = g.F.Files.told c.args.files.now in
    let path = c.args.questions.now in
    let f = c.args.format in
    let before = option_map (λ p. p.now) c.args.before in
    let after = c.args.after.now in
    let read = subst (λ (b : List ℕ). IfSome (g.F.Files.told c.read_bytes.new.files) (λ t. ShowsFor t f before after (asked_in b) c.show_of.result)) c.deref.ensures.value c.show_of.ensures.shows in
    let views = subst (λ (o : Option Told). IfSome o (λ t. ShowsFor t f before after (asked_in c.in-Ok.bytes.items) c.show_of.result)) c.in-Ok.ensures.same read in
    then_go (λ t r. GivesBytes (λ (b : List ℕ). b) path (content t path) r) (λ t b r. ShowsFor t f before after (asked_in b) r) told c.in-Ok.bytes.items c.show_of.result c.in-Ok.ensures.bytes views

pub returns-in-Err-clause-shows : goal.returns-in-Err-clause-shows
returns-in-Err-clause-shows g c =
    let told : Option Told = g.F.Files.told c.args.files.now in
    let path = c.args.questions.now in
    let before = option_map (λ p. p.now) c.args.before in
    then_stop {A = List ℕ} (λ t r. GivesBytes (λ (b : List ℕ). b) path (content t path) r) (λ t b r. ShowsFor t c.args.format before c.args.after.now (asked_in b) r) told c.in-Err.stop c.in-Err.ensures.bytes
