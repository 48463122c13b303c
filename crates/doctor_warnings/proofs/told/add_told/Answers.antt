use Rattle.std.proofs.Common.{arith, ap, ◌+◌, ◌-◌, ◌++◌, ◌∙◌}
use Rattle.doctor_warnings.specs.Told.{told_at, told_from}
use Rattle.doctor_warnings.proofs.Steps.{told_more}
use Rattle.doctor_warnings.proofs.told.add_told.Goals as goal

pub loop-left-preserved : goal.loop-left-preserved
loop-left-preserved c =
    let bytes = c.args.bytes.now in
    let l = c.loop-left in
    record {
      told = ap (λ n. c.push.new.self.items ++ told_from bytes c.args.passed (l.number + 1) (n + 1) (l.left - 1)) c.end_of-start.ensures.value
          ∙ told_more bytes c.args.passed l.number l.start l.left l.told.items c.push.new.self.items (c.args.told.now.items ++ told_at bytes c.args.passed) c.loop-left-test.true c.in_ok-push.ensures.items l.invariant.told;
      few = omega arith;
      within = omega (arith, c.end_of-start.ensures.bound, l.invariant.within);
    }
