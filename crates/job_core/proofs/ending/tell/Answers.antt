use Rattle.std.proofs.Common.{refl, inr}
use Rattle.job_core.specs.declared.stop.Stop.TheVariants as stop
use Rattle.job_core.proofs.ending.tell.Goals as goal

pub returns-in_default : goal.returns-in_default
returns-in_default g c = (stop.NoMemory, inr refl, c.no_memory.ensures.status, c.no_memory.ensures.line)
