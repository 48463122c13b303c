use Rattle.change_scope.proofs.DifferenceLemmas.{all_then, keeps_then, seats_at_next}
use Rattle.change_scope.proofs.differences.add_seats.Goals as goal

pub loop-i-preserved : goal.loop-i-preserved
loop-i-preserved c =
    let f = c.args.table.now in
    let l = c.loop-i in
    let g = l.table in
    let k = c.add_seat.new.table in
    let o = c.in_ok-all.ensures in
    let r = c.in_ok-all.all in
    record {
      kept = keeps_then f g k l.invariant.kept o.kept;
      below = o.below;
      by = o.by;
      more = all_then f g k c.args.set l.all r l.invariant.more o.all;
      agree = seats_at_next f g k c.args.a.now c.args.b.now l.i _ _ l.all r l.invariant.kept c.requires.first c.requires.second c.requires.count c.loop-i-test.true o.all l.invariant.agree o.agree;
    }
