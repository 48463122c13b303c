-- A network whose devices are replaced, one after the other, and put back.
use Rattle.std.specs.Prelude.{◌≡◌, List, [], ◌∷◌, slice_set}
use Rattle.net_types.specs.declared.network.Network.{Network}
use Rattle.net_types.specs.World.{World}
use Rattle.live_network.specs.Live.{IsLive}
use Rattle.net_variants.specs.declared.kept.Kept.{Kept}
use Rattle.net_variants.specs.declared.kept.Replaced.{Replaced}

-- the network with these devices in their positions again, the last one first
abbrev pub back : Network → List Replaced → Network
back network [] = network
back network (one ∷ rest) = record { devices = slice_set (back network rest).devices one.position one.device }

-- it is this network, and no device is replaced
pub record IsKept (w : World) (k : Kept) : Type 0 where
  pub network : k.network ≡ w.network
  pub none : k.replaced.items ≡ []
  pub live : IsLive w k.live
