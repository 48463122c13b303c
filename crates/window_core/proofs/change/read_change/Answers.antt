use Rattle.std.proofs.Common.{ℕ, List, Option, IfSome, Ok, Vec, Global, subst}
use Rattle.net_io.specs.Files.{Told, content}
use Rattle.job_core.specs.Steps.{GivesBytes}
use Rattle.job_core.proofs.StepLemmas.{then_go, however_told}
use Rattle.window_core.specs.Changes.{SaysChange}
use Rattle.window_core.proofs.change.read_change.Goals as goal

pub returns-in-Ok-clause-change : goal.returns-in-Ok-clause-change
returns-in-Ok-clause-change g c =
    let told : Option Told = g.F.Files.told c.args.files.now in
    let path = c.args.path.now in
    let file = c.args.step.now.path in
    let r = c.change_in.result in
    let gives = subst (λ p. IfSome told (λ t. GivesBytes (λ (v : Vec ℕ Global). v.items) p (content t p) (Ok c.in-Ok.bytes))) c.as_str.ensures c.in-Ok.ensures.bytes in
    let says = subst (λ (bs : List ℕ). SaysChange path c.args.sum file bs r) c.deref.ensures.value (subst (λ f. SaysChange path c.args.sum f c.deref.result.now r) c.as_str-in-Ok.ensures c.change_in.ensures.change) in
    then_go (λ t q. GivesBytes (λ (bs : List ℕ). bs) file (content t file) q) (λ t bs q. SaysChange path c.args.sum file bs q) told c.in-Ok.bytes.items r gives (however_told told says)
