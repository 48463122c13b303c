use Rattle.std.proofs.Common.{◌≡◌, ◌++◌, ◌≤◌, ◌*◌, ◌^◌, [], codes, take, map, flat_map, All}
use Rattle.view_core.specs.Kinds.{kind_count}
use Rattle.view_core.proofs.kinds.kind_count.Given as goal

abbrev pub invariant-loop-entry : goal.invariant-loop-entry
invariant-loop-entry l = record {
  counted : l.count ≡ kind_count (take l.entry-index l.entries) l.kind;
  small : l.count ≤ l.entry-index;
}
