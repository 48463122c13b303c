use Rattle.std.proofs.Common.{◌≡◌, ℕ, [], Some, slice_get}
use Rattle.net_forms.specs.declared.forms.DeviceLists.{DeviceLists}
use Rattle.list_tables.proofs.known.no_lists.Given as goal

abbrev pub invariant-loop : goal.invariant-loop
invariant-loop l = record {
  empty : (n : ℕ) (k : DeviceLists) → slice_get l.known.items n ≡ Some k → k.lists.items ≡ [];
}
