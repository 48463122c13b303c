use Rattle.std.proofs.Common.{take_all, subst}
use Rattle.live_network.specs.Touched.{AreTouched}
use Rattle.live_network.proofs.TouchedLemmas.{touched_more}
use Rattle.live_network.proofs.touched.touched_names.Goals as goal

pub loop-segment-preserved : goal.loop-segment-preserved
loop-segment-preserved c =
    let l = c.loop-segment in
    let o = c.in_ok-add_segment.ensures in
    record {
      own = o.kept c.args.after.now.name l.invariant.own;
      touched = touched_more c.args.before.now c.args.after.now c.args.segments.now l.segment-index c.segment-item.result l.names.items c.add_segment.new.names.items c.loop-segment-test.true c.segment-item.is o.kept o.named l.invariant.touched;
    }

pub returns-clause-touched : goal.returns-clause-touched
returns-clause-touched c =
    let l = c.loop-segment in
    subst (λ ss. AreTouched c.args.before.now c.args.after.now ss l.names.items) (take_all l.segment-index c.args.segments.now c.loop-segment-test.false) l.invariant.touched
