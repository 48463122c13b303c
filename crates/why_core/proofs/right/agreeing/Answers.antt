use Rattle.std.proofs.Common.{◌≡◌, arith}
use Rattle.why_core.proofs.CaseLemmas.{at_end}
use Rattle.why_core.proofs.right.agreeing.Goals as goal

pub returns-clause-count : goal.returns-clause-count
returns-clause-count c =
    let all : c.loop-i.i ≡ c.min-most.result = omega arith in
    at_end c.args.report.now c.args.names.now c.min-most.result c.args.sections.now c.args.ingress.now (omega arith) (rw all at c.loop-i.invariant)
