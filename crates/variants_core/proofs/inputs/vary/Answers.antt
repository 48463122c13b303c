use Rattle.job_core.proofs.StepLemmas.{then_stop}
use Rattle.window_core.specs.declared.base.Base.{Base}
use Rattle.variants_core.specs.Job.{GivesBase, VariesFrom}
use Rattle.variants_core.specs.Words.{paths}
use Rattle.variants_core.proofs.inputs.vary.Goals as goal

pub returns-in-Err-clause-job : goal.returns-in-Err-clause-job
returns-in-Err-clause-job g c =
    let p = paths c.args.asked.now in
    then_stop {A = Base} (λ t r. GivesBase t p r) (λ t base r. VariesFrom t p base r) (g.F.Files.told c.args.files.now) c.in-Err.stop c.in-Err.ensures.base
