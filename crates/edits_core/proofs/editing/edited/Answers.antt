use Rattle.std.proofs.Common.{◌≡◌, ℕ, List, sym, subst}
use Rattle.std.specs.Prelude.{Result, Ok, Err, IfErr}
use Rattle.std.specs.Result.{IsErrAnd}
use Rattle.net_load.specs.declared.numbering.Numbered.{Numbered}
use Rattle.edit_lines.specs.declared.reading.EditLine.{EditLine}
use Rattle.job_core.specs.declared.report.Report.{Report}
use Rattle.job_core.specs.declared.stop.Stop.{Stop}
use Rattle.job_core.specs.declared.stop.Stop.TheVariants as stop
use Rattle.job_core.specs.Causes.{WasRead}
use Rattle.edits_core.specs.Edits.{network_after}
use Rattle.edits_core.specs.Job.{IsEdited, Refuses}
use Rattle.edits_core.proofs.editing.edited.Goals as goal

without_memory : (path : List ℕ) (n : Numbered) (lines : List EditLine) (r : Result Report Stop) → IsErrAnd r (λ e. e ≡ stop.NoMemory) → IsEdited path n lines r
without_memory path n lines (Ok x) h = absurd h
without_memory path n lines (Err e) h = subst (λ (s : Stop). Refuses path (network_after n.old lines) s) (sym h) tt

was_read : (r : Result Report Stop) → IsErrAnd r (λ e. e ≡ stop.NoMemory) → IfErr r WasRead
was_read (Ok x) h = tt
was_read (Err e) h = subst WasRead (sym h) tt

pub returns-in_err-report_of-in-Ok-clause-job : goal.returns-in_err-report_of-in-Ok-clause-job
returns-in_err-report_of-in-Ok-clause-job c = without_memory c.args.path.now c.args.numbered.now c.args.lines.now _ c.from_residual-in_err-report_of-in-Ok.ensures.1

pub returns-in_err-report_of-in-Ok-clause-read : goal.returns-in_err-report_of-in-Ok-clause-read
returns-in_err-report_of-in-Ok-clause-read c = was_read _ c.from_residual-in_err-report_of-in-Ok.ensures.1
