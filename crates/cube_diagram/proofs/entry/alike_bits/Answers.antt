use Rattle.cube_diagram.proofs.BitLemmas.{few_alike, alike_before}
use Rattle.cube_diagram.proofs.entry.alike_bits.Goals as goal

pub overflow_sub-result : goal.overflow_sub-result
overflow_sub-result c = few_alike c.args.a.now c.args.b.now

pub returns-clause-alike : goal.returns-clause-alike
returns-clause-alike c = alike_before c.args.a.now c.args.b.now
