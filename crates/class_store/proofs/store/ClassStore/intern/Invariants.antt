use Rattle.std.proofs.Common.{◌≡◌, length}
use Rattle.class_store.specs.Windows.{window}
use Rattle.class_store.specs.Classes.{HoldOthers}
use Rattle.class_store.proofs.store.ClassStore.intern.Given as goal

abbrev pub invariant-loop-offset : goal.invariant-loop-offset
invariant-loop-offset l = record {
  label : l.label ≡ l.fn.label;
  count : length l.passed.items ≡ l.offset;
  passed : HoldOthers (window l.fn.self l.start) l.fn.label l.passed.items;
}
