use Rattle.list_tables.specs.Made.{AreKnown}
use Rattle.list_tables.proofs.known.known_of.Given as goal

abbrev pub invariant-loop-share : goal.invariant-loop-share
invariant-loop-share l = AreKnown l.both l.known
