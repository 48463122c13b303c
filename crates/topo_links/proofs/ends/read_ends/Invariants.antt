use Rattle.std.proofs.Common.{◌≡◌, ◌++◌, [], length}
use Rattle.topo_links.specs.Ends.{ends_of}
use Rattle.topo_links.proofs.ends.read_ends.Given as goal

abbrev pub invariant-loop-device : goal.invariant-loop-device
invariant-loop-device l = record {
  read : ends_of l.kind l.line l.initial.taken [] l.words ≡ ends_of l.kind l.line l.initial.taken l.ends.items l.rest;
  taken : l.taken ≡ l.initial.taken ++ l.ends.items;
}

abbrev pub decreases-loop-device : goal.decreases-loop-device
decreases-loop-device l = length l.rest
