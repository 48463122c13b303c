use Rattle.std.proofs.Common.{ℕ, List}
use Rattle.job_core.proofs.StepLemmas.{then_stop}
use Rattle.window_core.specs.Job.{GivesText, RollsWith}
use Rattle.window_core.specs.Words.{paths}
use Rattle.window_core.proofs.asking.roll_from.Goals as goal

pub returns-in-Err-clause-job : goal.returns-in-Err-clause-job
returns-in-Err-clause-job g c =
    let p = paths c.args.asked.now in
    let base = c.args.base in
    then_stop {A = List ℕ} (λ t r. GivesText t p.questions base r) (λ t bytes r. RollsWith t p base bytes r) (g.F.Files.told c.args.files.now) c.in-Err.stop c.in-Err.ensures.text
