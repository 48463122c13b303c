use Rattle.std.proofs.Common.{◌≤◌, length}
use Rattle.ask_query.specs.Slots.{AreBelow, HaveSlots}
use Rattle.ask_query.proofs.slots.slots_of.Given as goal

abbrev pub invariant-loop-number : goal.invariant-loop-number
invariant-loop-number l = record {
  few : length l.slots.items ≤ 65536;
  below : AreBelow l.number l.slots.items;
  each : HaveSlots l.number l.slots.items;
}
