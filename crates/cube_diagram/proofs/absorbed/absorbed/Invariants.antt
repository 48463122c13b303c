use Rattle.std.proofs.Common.{◌≡◌, length}
use Rattle.hdr_bits.specs.Lists.{Extends}
use Rattle.cube_diagram.specs.Absorbed.{AreAbsorbed}
use Rattle.cube_diagram.specs.Combined.{IsSound}
use Rattle.cube_diagram.proofs.absorbed.absorbed.Given as goal

abbrev pub invariant-loop-i : goal.invariant-loop-i
invariant-loop-i l = record {
  sound : IsSound l.tables;
  grows : Extends l.initial.tables.table.nodes.items l.tables.table.nodes.items;
  count : length l.numbers.items ≡ l.i;
  absorbed : AreAbsorbed l.source.nodes.items l.told l.tables.table.nodes.items l.numbers.items;
}
