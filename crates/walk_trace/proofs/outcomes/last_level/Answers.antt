use Rattle.std.proofs.Common.{◌≡◌, ℕ, subst, arith}
use Rattle.walk_trace.specs.Numbered.{reached}
use Rattle.walk_trace.specs.Outcomes.{SameSet}
use Rattle.walk_trace.proofs.OutcomeLemmas.{level_more}
use Rattle.walk_trace.proofs.outcomes.last_level.Goals as goal

pub loop-n-preserved : goal.loop-n-preserved
loop-n-preserved c =
    level_more c.args.site.now c.loop-n._n c.args.start.now c.loop-n.level.items c.in_ok-level.level.items c.loop-n.invariant
    (rw c.deref.ensures.value at c.in_ok-level.ensures)

pub returns : goal.returns
returns c =
    let done : c.loop-n._n ≡ c.args.n = omega arith in
    subst (λ (k : ℕ). SameSet c.loop-n.level.items (reached c.args.site.now k c.args.start.now)) done c.loop-n.invariant
