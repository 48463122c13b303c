use Rattle.window_core.specs.declared.change.Change.{Change}
use Rattle.job_core.proofs.StepLemmas.{then_stop}
use Rattle.window_core.specs.Changes.{Judges, ReadsChange}
use Rattle.window_core.proofs.ChangeLemmas.{grows_go}
use Rattle.window_core.proofs.changes.Window.take.Goals as goal

pub returns-in-Ok-clause-change : goal.returns-in-Ok-clause-change
returns-in-Ok-clause-change g c =
    let w = c.args.self in
    grows_go c.args.path.now c.args.base.now w.changes w.total c.args.step.now (g.F.Files.told c.args.files.now) c.in-Ok.change c.with.result c.in-Ok.ensures.change c.with.ensures.change

pub returns-in-Err-clause-change : goal.returns-in-Err-clause-change
returns-in-Err-clause-change g c =
    let w = c.args.self in
    let path = c.args.path.now in
    let step = c.args.step.now in
    then_stop {A = Change} (λ t r. ReadsChange t path w.total step r) (λ t x r. Judges path c.args.base.now w.changes step.line x r) (g.F.Files.told c.args.files.now) c.in-Err.stop c.in-Err.ensures.change
