use Rattle.std.proofs.Common.{arith}
use Rattle.why_core.proofs.LineLemmas.{few_lines}
use Rattle.why_core.proofs.lines.line_of.Goals as goal

pub overflow_add-result : goal.overflow_add-result
overflow_add-result c =
    let few = few_lines c.args.bytes.now in
    let inside = c.in-Some.ensures.inside in
    omega (arith, few, inside)
