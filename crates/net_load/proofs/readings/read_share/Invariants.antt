use Rattle.std.specs.Prelude.{All}
use Rattle.net_load.specs.Texts.{IsReadAt}
use Rattle.net_load.proofs.readings.read_share.Given as goal

abbrev pub invariant-loop-at : goal.invariant-loop-at
invariant-loop-at l = record {
  read : All (IsReadAt l.texts) l.share.items;
}
