-- Variants of a network: what the words ask, over what the files tell alone.
use Rattle.std.specs.Prelude.{◌≡◌, ℕ, List, [], Option, None, Some, Result, Ok, Err}
use Rattle.net_io.specs.Files.{Told, content}
use Rattle.net_load.specs.declared.numbering.Numbered.{Numbered}
use Rattle.net_load.specs.Numbering.{numbered_of}
use Rattle.rollout_steps.specs.declared.refusal.StepRefusal.{StepRefusal}
use Rattle.rollout_steps.specs.declared.refusal.StepsFail.TheVariants as steps
use Rattle.rollout_steps.specs.Refusals.{refusal_text}
use Rattle.variant_lines.specs.declared.reading.VariantLine.{VariantLine}
use Rattle.variant_lines.specs.Reading.{variants_of}
use Rattle.job_core.specs.declared.report.Report.{Report}
use Rattle.job_core.specs.declared.stop.Stop.{Stop}
use Rattle.job_core.specs.declared.stop.Stop.TheVariants as stop
use Rattle.job_core.specs.Steps.{Then, OrNoMemory, GivesBytes}
use Rattle.job_inputs.specs.Folders.{GivesFolder}
use Rattle.window_core.specs.declared.base.Base.{Base}
use Rattle.window_core.specs.Job.{WithTable}
use Rattle.variants_core.specs.declared.reading.Variant.{Variant}
use Rattle.variants_core.specs.Report.{IsAnswer}
use Rattle.variants_core.specs.Taking.{TakesAll, changes_of, nothing}
use Rattle.variants_core.specs.Words.{Paths, paths_of}

-- the network with its link table, which is judged with it as both networks
abbrev pub GivesBase : Told → Paths → Result Base Stop → Type 0
GivesBase t p = Then (GivesFolder (λ devices. devices) t p.net) (WithTable t p.links)

-- ---- the variants

-- why a text says no variants
abbrev pub LinesFail : List ℕ → List ℕ → Stop → Type 0
LinesFail path bytes (stop.Refused p n k word) =
    (p ≡ path) × (kind : StepRefusal) × (k ≡ refusal_text kind) × (variants_of bytes ≡ Err (steps.Refused kind n word))
LinesFail path bytes (stop.TooManyFiles p) = (p ≡ path) × (variants_of bytes ≡ Err steps.TooMany)
LinesFail path bytes stop.NoMemory = Unit {0}
LinesFail path bytes _ = ⊥

abbrev pub SaysLines : List ℕ → List ℕ → Result (List VariantLine) Stop → Type 0
SaysLines path bytes (Ok lines) = variants_of bytes ≡ Ok lines
SaysLines path bytes (Err s) = LinesFail path bytes s

abbrev pub GivesLines : Told → List ℕ → Result (List VariantLine) Stop → Type 0
GivesLines t path = Then (GivesBytes (λ bytes. bytes) path (content t path)) (SaysLines path)

-- the variants of a file: the text as a whole, and then each line's file
abbrev pub GivesVariants : Told → List ℕ → Base → Result (List Variant) Stop → Type 0
GivesVariants t path base = Then (GivesLines t path) (TakesAll t path base nothing)

-- ---- the whole

-- the network over all names, with the changes of all variants beside it
abbrev pub varied_network : Base → List Variant → Numbered
varied_network base variants = numbered_of base.devices (changes_of variants) base.table []

-- each variant is compared with the network
abbrev pub Compares : Base → List Variant → Result Report Stop → Type 0
Compares base variants = OrNoMemory (IsAnswer (varied_network base variants) variants)

abbrev pub VariesFrom : Told → Paths → Base → Result Report Stop → Type 0
VariesFrom t p base = Then (GivesVariants t p.variants base) (Compares base)

-- the network with its link table, then the variants, and the reports
abbrev pub Varies : Told → Paths → Result Report Stop → Type 0
Varies t p = Then (GivesBase t p) (VariesFrom t p)

abbrev pub Performs : Option Paths → Told → Result Report Stop → Type 0
Performs None t result = ⊥
Performs (Some p) t result = Varies t p result

-- what the words ask, done
abbrev pub Does : List (List ℕ) → Told → Result Report Stop → Type 0
Does words t result = Performs (paths_of words) t result
