-- Lines of a text of variants, one after the other.
use Rattle.std.proofs.Common.{List, ◌++◌}
use Rattle.std.specs.Prelude.{Result}
use Rattle.rollout_steps.specs.declared.refusal.StepsFail.{StepsFail}
use Rattle.variant_lines.specs.declared.reading.VariantLine.{VariantLine}
use Rattle.variant_lines.specs.Reading.{Effect, first_refusal, said_before, within}

-- what is read so far, and what the lines after it say
abbrev pub behind : List VariantLine → List Effect → Result (List VariantLine) StepsFail
behind said es = within (said ++ said_before es) (first_refusal es)
