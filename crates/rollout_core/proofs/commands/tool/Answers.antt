use Rattle.std.proofs.Common.{◌≡◌, ℕ, List, map, string_bytes, sym, subst, ◌∙◌}
use Rattle.job_core.specs.Endings.{Ends, FilesOver, SinkOver}
use Rattle.rollout_words.specs.Usage.{usage_text}
use Rattle.rollout_core.specs.declared.commands.Command.{Command}
use Rattle.rollout_core.specs.declared.commands.Command.TheVariants as command
use Rattle.rollout_core.specs.Commands.{AcceptedBy, DoesBy, command_of}
use Rattle.rollout_core.proofs.commands.tool.Goals as goal

-- a run of the command that the words name is one of what they ask
named : (words : List (List ℕ)) (k : Command) (status : ℕ) (files : FilesOver) (out err : SinkOver) → k ≡ command_of words
    → Ends (DoesBy k words) (AcceptedBy k words) usage_text status files out err
    → Ends (DoesBy (command_of words) words) (AcceptedBy (command_of words) words) usage_text status files out err
named words k status files out err is h = subst (λ x. Ends (DoesBy x words) (AcceptedBy x words) usage_text status files out err) is h

pub returns-in-Audit-clause-ends : goal.returns-in-Audit-clause-ends
returns-in-Audit-clause-ends g c = named (map string_bytes c.args.words.now) command.Audit _ _ _ _ (sym c.in-Audit.is ∙ c.command_of.ensures) c.audit_run.ensures.ends

pub returns-in-Edits-clause-ends : goal.returns-in-Edits-clause-ends
returns-in-Edits-clause-ends g c = named (map string_bytes c.args.words.now) command.Edits _ _ _ _ (sym c.in-Edits.is ∙ c.command_of.ensures) c.edits_run.ensures.ends

pub returns-in-Rollout-clause-ends : goal.returns-in-Rollout-clause-ends
returns-in-Rollout-clause-ends g c = named (map string_bytes c.args.words.now) command.Rollout _ _ _ _ (sym c.in-Rollout.is ∙ c.command_of.ensures) c.rollout_run.ensures.ends

pub returns-in-Variants-clause-ends : goal.returns-in-Variants-clause-ends
returns-in-Variants-clause-ends g c = named (map string_bytes c.args.words.now) command.Variants _ _ _ _ (sym c.in-Variants.is ∙ c.command_of.ensures) c.variants_run.ensures.ends
