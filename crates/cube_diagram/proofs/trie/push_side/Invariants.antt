use Rattle.std.proofs.Common.{◌≡◌, ◌≤◌, ◌++◌, ◌-◌, length, take, drop}
use Rattle.std.specs.Prelude.{filter}
use Rattle.cube_diagram.specs.Tries.{is_on}
use Rattle.cube_diagram.proofs.trie.push_side.Given as goal

abbrev pub invariant-loop-i : goal.invariant-loop-i
invariant-loop-i l =
    record {
      from : l.start ≤ l.i;
      within : l.i ≤ length l.initial.stack.items;
      items : l.stack.items ≡ l.initial.stack.items ++ filter (is_on l.bit l.one) (take (l.i - l.start) (drop l.start l.initial.stack.items));
    }
