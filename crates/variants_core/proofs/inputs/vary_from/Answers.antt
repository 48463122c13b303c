use Rattle.std.proofs.Common.{List}
use Rattle.job_core.proofs.StepLemmas.{then_stop}
use Rattle.variants_core.specs.declared.reading.Variant.{Variant}
use Rattle.variants_core.specs.Job.{Compares, GivesVariants}
use Rattle.variants_core.specs.Words.{paths}
use Rattle.variants_core.proofs.inputs.vary_from.Goals as goal

pub returns-in-Err-clause-job : goal.returns-in-Err-clause-job
returns-in-Err-clause-job g c =
    let p = paths c.args.asked.now in
    let base = c.args.base in
    then_stop {A = List Variant} (λ t r. GivesVariants t p.variants base r) (λ t variants r. Compares base variants r) (g.F.Files.told c.args.files.now) c.in-Err.stop c.in-Err.ensures.variants
