use Rattle.std.proofs.Common.{◌+◌, arith}
use Rattle.ask_query.proofs.SlotLemmas.{below_later, have_more}
use Rattle.ask_query.proofs.slots.slots_of.Goals as goal

pub loop-number-preserved : goal.loop-number-preserved
loop-number-preserved c =
    let n = c.loop-number.number in
    let old = c.loop-number.slots.items in
    let made = c.in_ok-add_number.ensures in
    record {
      few = made.few;
      below = made.below (n + 1) (below_later n (n + 1) old (omega arith) c.loop-number.invariant.below) (omega arith);
      each = have_more n old c.add_number.new.slots.items c.loop-number.invariant.each made.kept made.added;
    }
