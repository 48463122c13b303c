-- What the words ask of the command that the first of them names.
use Rattle.std.specs.Prelude.{ℕ, Bool, List, Result, is_some, codes, if◌then◌else◌}
use Rattle.net_io.specs.Files.{Told}
use Rattle.job_core.specs.declared.report.Report.{Report}
use Rattle.job_core.specs.declared.stop.Stop.{Stop}
use Rattle.audit_core.specs.Audits as audit
use Rattle.audit_core.specs.Words as audit_words
use Rattle.edits_core.specs.Accepted as accepted_edits
use Rattle.edits_core.specs.Job as edits
use Rattle.edits_core.specs.Words as edits_words
use Rattle.window_core.specs.Accepted as accepted
use Rattle.window_core.specs.Job as rollout
use Rattle.window_core.specs.Words as rollout_words
use Rattle.variants_core.specs.Accepted as accepted_variants
use Rattle.variants_core.specs.Job as variants
use Rattle.variants_core.specs.Words as variants_words
use Rattle.rollout_core.specs.declared.commands.Command.{Command}
use Rattle.rollout_core.specs.declared.commands.Command.TheVariants as command
use Rattle.rollout_core.specs.Names.{is_named}

-- the command that the first word names; words that name none are those of a rollout that is outside the usage
abbrev pub command_of : List (List ℕ) → Command
command_of words =
    if is_named (codes "audit") words then command.Audit
    else (if is_named (codes "edits") words then command.Edits
    else (if is_named (codes "variants") words then command.Variants
    else command.Rollout))

-- the words are within the usage of the command
abbrev pub is_within_by : Command → List (List ℕ) → Bool
is_within_by command.Audit words = is_some (audit_words.net_of words)
is_within_by command.Edits words = is_some (edits_words.paths_of words)
is_within_by command.Rollout words = is_some (rollout_words.paths_of words)
is_within_by command.Variants words = is_some (variants_words.paths_of words)

abbrev pub is_within : List (List ℕ) → Bool
is_within words = is_within_by (command_of words) words

abbrev pub DoesBy : Command → List (List ℕ) → Told → Result Report Stop → Type 0
DoesBy command.Audit words t result = audit.Does words t result
DoesBy command.Edits words t result = edits.Does words t result
DoesBy command.Rollout words t result = rollout.Does words t result
DoesBy command.Variants words t result = variants.Does words t result

-- what the words ask of the command that they name, done
abbrev pub Does : List (List ℕ) → Told → Result Report Stop → Type 0
Does words t result = DoesBy (command_of words) words t result

abbrev pub AcceptedBy : Command → List (List ℕ) → Told → Type 0
AcceptedBy command.Audit words t = audit.IsAccepted words t
AcceptedBy command.Edits words t = accepted_edits.IsAccepted words t
AcceptedBy command.Rollout words t = accepted.IsAccepted words t
AcceptedBy command.Variants words t = accepted_variants.IsAccepted words t

-- nothing of it is refused, too long, too many or absent
abbrev pub IsAccepted : List (List ℕ) → Told → Type 0
IsAccepted words t = AcceptedBy (command_of words) words t
