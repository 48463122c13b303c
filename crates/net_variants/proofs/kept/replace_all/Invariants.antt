use Rattle.std.proofs.Common.{◌≡◌, drop}
use Rattle.live_network.specs.Live.{IsLive, IsRenewed}
use Rattle.net_variants.specs.Kept.{back}
use Rattle.net_variants.specs.Variants.{variant}
use Rattle.net_variants.proofs.kept.replace_all.Given as goal

abbrev pub invariant-loop-change : goal.invariant-loop-change
invariant-loop-change l = record {
  network : variant l.kept.network (drop l.change-index l.changes) ≡ variant l.initial.kept.network l.changes;
  live : IsLive (record { network = l.kept.network; links = l.links }) l.kept.live;
  back : back l.kept.network l.kept.replaced.items ≡ back l.initial.kept.network l.initial.kept.replaced.items;
  renewed : IsRenewed l.initial.kept.live l.kept.live;
}
