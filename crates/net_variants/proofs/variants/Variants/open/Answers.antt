use Rattle.std.proofs.Common.{subst}
use Rattle.net_types.specs.World.{World}
use Rattle.live_network.specs.Live.{IsLive}
use Rattle.net_variants.proofs.variants.Variants.open.Goals as goal

pub invariant_of-result : goal.invariant_of-result
invariant_of-result g c =
    record {
      network = c.in_ok-copy.ensures.same;
      none = c.new.ensures.items;
      live = subst (λ (w : World). IsLive w c.in_ok-live.live) c.in_ok-formed.ensures.world c.in_ok-live.ensures;
    }
