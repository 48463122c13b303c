use Rattle.std.proofs.Common.{subst}
use Rattle.net_types.specs.World.{World}
use Rattle.live_network.specs.Live.{IsLive}
use Rattle.live_network.proofs.network.LiveNetwork.ways.Goals as goal

pub returns : goal.returns
returns c = subst (λ (w : World). IsLive w c.self.inside.live) c.self.view_is c.self.invariant
