use Rattle.std.proofs.Common.{◌≡◌, ◌+◌, ◌-◌, arith, length, ap, ◌∙◌}
use Rattle.walk_trace.proofs.Breadth.{level_added}
use Rattle.walk_trace.proofs.numbers.numbered.Goals as goal

pub loop-n-preserved : goal.loop-n-preserved
loop-n-preserved c =
    let same : c.loop-n._n + 1 - 1 ≡ c.loop-n._n = omega arith in
    record {
      found =
          level_added c.args.site.now c.args.start.now c.loop-n._n c.loop-n.before c.loop-n.found c.deref.result.now c.add_next.new.found (omega arith)
          c.loop-n.invariant.found c.loop-n.invariant.before (c.deref.ensures.value ∙ c.in_ok-level.ensures) c.in_ok-add_next.ensures;
      before = rw same (c.len-before.ensures ∙ ap length c.loop-n.invariant.found);
    }
