use Rattle.std.proofs.Common.{◌≡◌, length}
use Rattle.class_store.proofs.store.ClassStore.new.Given as goal

abbrev pub invariant-loop : goal.invariant-loop
invariant-loop l = length l.empty.items ≡ l.counter
