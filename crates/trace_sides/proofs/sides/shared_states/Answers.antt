use Rattle.std.proofs.Common.{◌≡◌, arith}
use Rattle.trace_sides.proofs.Parting.{at_end}
use Rattle.trace_sides.proofs.sides.shared_states.Goals as goal

pub returns-clause-count : goal.returns-clause-count
returns-clause-count c =
    let names = c.args.names.now in
    let old = c.args.old.now in
    let new = c.args.new.now in
    let all : c.loop-i.i ≡ c.min-most.result = omega arith in
    at_end names c.min-most.result old new (omega arith) (rw all at c.loop-i.invariant)
