use Rattle.std.proofs.Common.{ℕ, List, Option, IfSome, Ok, Err, Vec, Global, subst}
use Rattle.net_io.specs.Files.{Told, content}
use Rattle.job_core.specs.Steps.{GivesBytes}
use Rattle.job_core.proofs.StepLemmas.{then_go, then_stop, however_told}
use Rattle.review_core.specs.Job.{AsksOn, asked_network}
use Rattle.review_core.proofs.asking.ask_with.Goals as goal

pub returns-in-Ok-clause-job : goal.returns-in-Ok-clause-job
returns-in-Ok-clause-job g c =
    let told : Option Told = g.F.Files.told c.args.files.now in
    let path = c.args.asked.now.questions in
    let asks = AsksOn path (asked_network c.args.devices.items c.args.table.now) c.args.asked.now.ttl in
    let asked = subst (λ (bs : List ℕ). asks bs c.ask_numbered.result) c.deref.ensures.value c.ask_numbered.ensures.job in
    let gives = subst (λ p. IfSome told (λ t. GivesBytes (λ (v : Vec ℕ Global). v.items) p (content t p) (Ok c.in-Ok.bytes))) c.as_str.ensures c.in-Ok.ensures.bytes in
    then_go (λ t r. GivesBytes (λ (bs : List ℕ). bs) path (content t path) r) (λ t bs r. asks bs r) told c.in-Ok.bytes.items c.ask_numbered.result gives (however_told told asked)

pub returns-in-Err-clause-job : goal.returns-in-Err-clause-job
returns-in-Err-clause-job g c =
    let told : Option Told = g.F.Files.told c.args.files.now in
    let path = c.args.asked.now.questions in
    let asks = AsksOn path (asked_network c.args.devices.items c.args.table.now) c.args.asked.now.ttl in
    let stops = subst (λ p. IfSome told (λ t. GivesBytes (λ (v : Vec ℕ Global). v.items) p (content t p) (Err c.in-Err.stop))) c.as_str.ensures c.in-Err.ensures.bytes in
    then_stop {A = List ℕ} (λ t r. GivesBytes (λ (bs : List ℕ). bs) path (content t path) r) (λ t bs r. asks bs r) told c.in-Err.stop stops
