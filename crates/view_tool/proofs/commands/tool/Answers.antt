use Rattle.std.proofs.Common.{◌≡◌, ℕ, List, map, string_bytes, sym, subst, ◌∙◌}
use Rattle.job_core.specs.Endings.{Ends, FilesOver, SinkOver}
use Rattle.view_words.specs.Usage.{usage_text}
use Rattle.view_tool.specs.declared.commands.Command.{Command}
use Rattle.view_tool.specs.declared.commands.Command.TheVariants as command
use Rattle.view_tool.specs.Commands.{AcceptedBy, DoesBy, command_of}
use Rattle.view_tool.proofs.commands.tool.Goals as goal

-- a run of the command that the words name is one of what they ask
named : (words : List (List ℕ)) (k : Command) (status : ℕ) (files : FilesOver) (out err : SinkOver) → k ≡ command_of words
    → Ends (DoesBy k words) (AcceptedBy k words) usage_text status files out err
    → Ends (DoesBy (command_of words) words) (AcceptedBy (command_of words) words) usage_text status files out err
named words k status files out err is h = subst (λ x. Ends (DoesBy x words) (AcceptedBy x words) usage_text status files out err) is h

pub returns-in-Why-clause-ends : goal.returns-in-Why-clause-ends
returns-in-Why-clause-ends g c = named (map string_bytes c.args.words.now) command.Why _ _ _ _ (sym c.in-Why.is ∙ c.command_of.ensures) c.why_run.ensures.ends

pub returns-in-Traces-clause-ends : goal.returns-in-Traces-clause-ends
returns-in-Traces-clause-ends g c = named (map string_bytes c.args.words.now) command.Traces _ _ _ _ (sym c.in-Traces.is ∙ c.command_of.ensures) c.traces_run.ensures.ends

pub returns-in-Report-clause-ends : goal.returns-in-Report-clause-ends
returns-in-Report-clause-ends g c = named (map string_bytes c.args.words.now) command.Report _ _ _ _ (sym c.in-Report.is ∙ c.command_of.ensures) c.view_run.ensures.ends

pub returns-in-Audit-clause-ends : goal.returns-in-Audit-clause-ends
returns-in-Audit-clause-ends g c = named (map string_bytes c.args.words.now) command.Audit _ _ _ _ (sym c.in-Audit.is ∙ c.command_of.ensures) c.audit_run.ensures.ends

pub returns-in-Answers-clause-ends : goal.returns-in-Answers-clause-ends
returns-in-Answers-clause-ends g c = named (map string_bytes c.args.words.now) command.Answers _ _ _ _ (sym c.in-Answers.is ∙ c.command_of.ensures) c.answers_run.ensures.ends
