use Rattle.std.proofs.Common.{arith, ap, ◌+◌, ◌-◌, ◌∙◌}
use Rattle.doctor_warnings.specs.Lines.{start_behind}
use Rattle.doctor_warnings.proofs.Steps.{start_more}
use Rattle.doctor_warnings.proofs.lines.start_behind.Goals as goal

pub loop-left-preserved : goal.loop-left-preserved
loop-left-preserved c =
    let bytes = c.args.bytes.now in
    record {
      value = ap (λ n. start_behind bytes (c.loop-left.left - 1) (n + 1)) c.end_of-start.ensures.value
          ∙ start_more bytes c.loop-left.left c.loop-left.start (start_behind bytes c.args.count 0) c.loop-left-test.true c.loop-left.invariant.value;
      within = omega (arith, c.end_of-start.ensures.bound, c.loop-left.invariant.within, c.loop-left.invariant.few);
      few = omega arith;
    }
