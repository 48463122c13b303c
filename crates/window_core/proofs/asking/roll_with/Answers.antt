use Rattle.std.proofs.Common.{List}
use Rattle.net_types.specs.declared.config.Loaded.{Loaded}
use Rattle.job_core.proofs.StepLemmas.{then_stop}
use Rattle.window_core.specs.Job.{Asks, GivesWindow, window_network}
use Rattle.window_core.specs.Words.{paths}
use Rattle.window_core.proofs.asking.roll_with.Goals as goal

pub returns-in-Err-clause-job : goal.returns-in-Err-clause-job
returns-in-Err-clause-job g c =
    let p = paths c.args.asked.now in
    let base = c.args.base in
    then_stop {A = List Loaded} (λ t r. GivesWindow t p.steps base r) (λ t changes r. Asks p.questions (window_network base changes) c.args.text r) (g.F.Files.told c.args.files.now) c.in-Err.stop c.in-Err.ensures.changes
