use Rattle.std.proofs.Common.{ℕ, arith, length-take, length-drop}
use Rattle.net_io.proofs.Taken.{took_step}
use Rattle.net_io.proofs.writing.write_all.Goals as goal

pub loop-at-preserved : goal.loop-at-preserved
loop-at-preserved g c =
    let h = c.loop-at.invariant in
    record {
      fits = omega (arith, c.in_ok-at.ensures.bound, length-take {A = ℕ}, length-drop {A = ℕ});
      took = took_step _ _ _ c.args.bytes.now c.loop-at.at c.in_ok-at.field-0 h.fits c.in_ok-at.ensures.bound h.took c.in_ok-at.ensures.took;
      later = omega (arith, h.later, c.write.ensures.cause.later);
    }
