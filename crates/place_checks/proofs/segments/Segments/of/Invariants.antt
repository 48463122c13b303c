use Rattle.std.proofs.Common.{◌≡◌, take}
use Rattle.place_checks.specs.Homes.{all_ends}
use Rattle.place_checks.specs.Index.{AreEnds}
use Rattle.place_checks.proofs.segments.Segments.of.Given as goal

abbrev pub invariant-loop-line : goal.invariant-loop-line
invariant-loop-line l = record {
  table : l.segments.table.now ≡ l.table;
  ends : AreEnds l.segments (all_ends (take l.line-index l.table));
}
