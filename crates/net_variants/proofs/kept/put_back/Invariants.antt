use Rattle.std.proofs.Common.{◌≡◌, length}
use Rattle.net_variants.specs.Kept.{back}
use Rattle.net_variants.proofs.kept.put_back.Given as goal

abbrev pub decreases-loop-one : goal.decreases-loop-one
decreases-loop-one l = length l.kept.replaced.items

abbrev pub invariant-loop-one : goal.invariant-loop-one
invariant-loop-one l = record {
  network : back l.kept.network l.kept.replaced.items ≡ back l.initial.kept.network l.initial.kept.replaced.items;
  live : l.kept.live ≡ l.initial.kept.live;
}
