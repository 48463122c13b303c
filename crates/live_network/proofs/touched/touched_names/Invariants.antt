use Rattle.std.proofs.Common.{take, Contains}
use Rattle.live_network.specs.Touched.{AreTouched}
use Rattle.live_network.proofs.touched.touched_names.Given as goal

abbrev pub invariant-loop-segment : goal.invariant-loop-segment
invariant-loop-segment l = record {
  own : Contains l.names.items l.after.name;
  touched : AreTouched l.before l.after (take l.segment-index l.segments) l.names.items;
}
