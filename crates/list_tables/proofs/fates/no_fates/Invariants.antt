use Rattle.std.proofs.Common.{◌≡◌, ℕ, Option, None, Some, slice_get}
use Rattle.list_tables.proofs.fates.no_fates.Given as goal

abbrev pub invariant-loop : goal.invariant-loop
invariant-loop l = record {
  empty : (n : ℕ) (f : Option ℕ) → slice_get l.none.items n ≡ Some f → f ≡ None;
}
