use Rattle.std.proofs.Common.{◌≡◌, ◌*◌, ◌^◌, ◌≤◌, take}
use Rattle.report_text.specs.Readings.{entry_count}
use Rattle.report_text.proofs.readings.entry_count.Given as goal

abbrev pub invariant-loop-list : goal.invariant-loop-list
invariant-loop-list l = record {
  counted : l.entries ≡ entry_count (take l.list-index l.lists);
  small : l.entries ≤ 2 ^ 64 * l.list-index;
}
