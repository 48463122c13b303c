use Rattle.std.proofs.Common.{◌≡◌, ℕ, List, ◌++◌, map, take}
use Rattle.topo_links.specs.Ends.{End}
use Rattle.place_checks.specs.Homes.{numbered}
use Rattle.place_checks.specs.Index.{AreEnds}
use Rattle.place_checks.proofs.segments.Segments.add_ends.Given as goal

abbrev pub invariant-loop-end : goal.invariant-loop-end
invariant-loop-end l = record {
  table : l.self.table ≡ l.initial.self.table;
  ends : (ps : List (End × ℕ)) → AreEnds l.initial.self ps → AreEnds l.self (ps ++ map (numbered l.line) (take l.end-index l.ends));
}
