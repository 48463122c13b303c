-- Steps read line by line.
use Rattle.std.proofs.Common.{List, ◌++◌}
use Rattle.std.specs.Prelude.{Result}
use Rattle.rollout_steps.specs.declared.reading.StepLine.{StepLine}
use Rattle.rollout_steps.specs.declared.refusal.StepsFail.{StepsFail}
use Rattle.rollout_steps.specs.Reading.{Effect, first_refusal, steps_before, within}

-- the steps that are read so far, and what the lines after them say
abbrev pub behind : List StepLine → List Effect → Result (List StepLine) StepsFail
behind steps es = within (steps ++ steps_before es) (first_refusal es)
