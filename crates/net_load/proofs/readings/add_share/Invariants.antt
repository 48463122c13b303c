use Rattle.std.proofs.Common.{List}
use Rattle.std.specs.Prelude.{All}
use Rattle.net_load.specs.declared.texts.FileText.{FileText}
use Rattle.net_load.specs.Texts.{AreReadings, IsReadAt}
use Rattle.net_load.proofs.readings.add_share.Given as goal

abbrev pub invariant-loop-read : goal.invariant-loop-read
invariant-loop-read l = record {
  rest : (texts : List FileText) → All (IsReadAt texts) l.initial.share.items → All (IsReadAt texts) l.share.items;
  known : (texts : List FileText) → All (IsReadAt texts) l.initial.share.items → AreReadings texts l.initial.known.items → AreReadings texts l.known.items;
}

abbrev pub decreases-loop-read : goal.decreases-loop-read
decreases-loop-read l = goal.left-loop-read l
