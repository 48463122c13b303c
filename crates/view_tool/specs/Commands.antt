-- What the words ask of the command that the first of them names.
use Rattle.std.specs.Prelude.{ℕ, Bool, false, ◌||◌, List, [], ◌∷◌, Result, codes, if◌then◌else◌}
use Rattle.std.specs.Str.{bytes_eq}
use Rattle.net_io.specs.Files.{Told}
use Rattle.job_core.specs.declared.report.Report.{Report}
use Rattle.job_core.specs.declared.stop.Stop.{Stop}
use Rattle.answer_view.specs.Views as answers
use Rattle.answer_view.specs.Words as answers_words
use Rattle.audit_view.specs.Views as audit
use Rattle.audit_view.specs.Words as audit_words
use Rattle.view_core.specs.Views as report
use Rattle.view_core.specs.Words as report_words
use Rattle.why_core.specs.Traces as traces
use Rattle.why_core.specs.Why as why
use Rattle.view_tool.specs.declared.commands.Command.{Command}
use Rattle.view_tool.specs.declared.commands.Command.TheVariants as command

-- the first word is this one
abbrev pub is_named : List ℕ → List (List ℕ) → Bool
is_named name [] = false
is_named name (word ∷ words) = bytes_eq word name

-- the command that the first word names; words that name none are those of a view of a report
abbrev pub command_of : List (List ℕ) → Command
command_of words =
    if is_named (codes "--why") words || is_named (codes "--why-all") words then command.Why
    else (if is_named (codes "--traces") words then command.Traces
    else (if is_named (codes "--audit") words then command.Audit
    else (if is_named (codes "--answers") words then command.Answers
    else command.Report)))

-- the words are within the usage of the command
abbrev pub is_within_by : Command → List (List ℕ) → Bool
is_within_by command.Report words = report_words.is_asked words
is_within_by command.Traces words = traces.is_asked words
is_within_by command.Why words = why.is_asked words
is_within_by command.Audit words = audit_words.is_asked words
is_within_by command.Answers words = answers_words.is_asked words

abbrev pub is_within : List (List ℕ) → Bool
is_within words = is_within_by (command_of words) words

abbrev pub DoesBy : Command → List (List ℕ) → Told → Result Report Stop → Type 0
DoesBy command.Report words t result = report.Does words t result
DoesBy command.Traces words t result = traces.Does words t result
DoesBy command.Why words t result = why.Does words t result
DoesBy command.Audit words t result = audit.Does words t result
DoesBy command.Answers words t result = answers.Does words t result

-- what the words ask of the command that they name, done
abbrev pub Does : List (List ℕ) → Told → Result Report Stop → Type 0
Does words t result = DoesBy (command_of words) words t result

abbrev pub AcceptedBy : Command → List (List ℕ) → Told → Type 0
AcceptedBy command.Report words t = report.IsAccepted words t
AcceptedBy command.Traces words t = traces.IsAccepted words t
AcceptedBy command.Why words t = why.IsAccepted words t
AcceptedBy command.Audit words t = audit.IsAccepted words t
AcceptedBy command.Answers words t = answers.IsAccepted words t

-- nothing of it is refused, too long or absent
abbrev pub IsAccepted : List (List ℕ) → Told → Type 0
IsAccepted words t = AcceptedBy (command_of words) words t
