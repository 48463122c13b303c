use Rattle.std.proofs.Common.{All}
use Rattle.class_store.specs.Classes.{IsClass}
use Rattle.test_cubes.proofs.interned.Round.intern_all.Given as goal

abbrev pub invariant-loop-position : goal.invariant-loop-position
invariant-loop-position l = All (IsClass l.store) l.classes.items
