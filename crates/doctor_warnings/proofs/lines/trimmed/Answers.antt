use Rattle.std.proofs.Common.{sym, ◌∙◌}
use Rattle.doctor_warnings.specs.Lines.{trimmed}
use Rattle.doctor_warnings.proofs.Steps.{cut_ends, cut_more}
use Rattle.doctor_warnings.proofs.lines.trimmed.Goals as goal

pub returns-else-separates : goal.returns-else-separates
returns-else-separates c = cut_ends c.loop-rest.rest.now (trimmed c.args.line.now) c.in-len1-up.len_at_least (sym c.separates.ensures ∙ c.if-separates.false) c.loop-rest.invariant

pub loop-rest-preserved : goal.loop-rest-preserved
loop-rest-preserved c = cut_more c.loop-rest.rest.now (trimmed c.args.line.now) c.in-len1-up.len_at_least (sym c.separates.ensures ∙ c.if-separates.true) c.loop-rest.invariant
