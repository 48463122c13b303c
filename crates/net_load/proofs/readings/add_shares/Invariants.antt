use Rattle.std.proofs.Common.{List}
use Rattle.std.specs.Prelude.{All}
use Rattle.net_load.specs.declared.texts.FileText.{FileText}
use Rattle.net_load.specs.Texts.{AreReadings, IsShareOf}
use Rattle.net_load.proofs.readings.add_shares.Given as goal

abbrev pub invariant-loop-share : goal.invariant-loop-share
invariant-loop-share l = record {
  rest : (texts : List FileText) → All (IsShareOf texts) l.initial.shares.items → All (IsShareOf texts) l.shares.items;
  known : (texts : List FileText) → All (IsShareOf texts) l.initial.shares.items → AreReadings texts l.initial.known.items → AreReadings texts l.known.items;
}

abbrev pub decreases-loop-share : goal.decreases-loop-share
decreases-loop-share l = goal.left-loop-share l
