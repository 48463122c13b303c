-- A variant of a network: devices of it have other configurations.
use Rattle.std.specs.Prelude.{ℕ, List, [], ◌∷◌}
use Rattle.live_network.specs.Replaced.{with_device}
use Rattle.net_types.specs.declared.network.NetDevice.{NetDevice}
use Rattle.net_types.specs.declared.network.Network.{Network}
use Rattle.net_types.specs.declared.network.Section.{Section}
use Rattle.net_types.specs.Report.{IsReport}
use Rattle.net_types.specs.World.{World}

-- the network in which each of these devices stands in the place of the one of its name, where there is one, one after the other
abbrev pub variant : Network → List NetDevice → Network
variant network [] = network
variant network (change ∷ changes) = variant (with_device change network) changes

-- the same, with the same links
abbrev pub variant_world : World → List NetDevice → World
variant_world w changes = record { network = variant w.network changes; links = w.links }

-- the report on the network as the old one and the variant as the new one
abbrev pub IsVariantReport : World → List NetDevice → ℕ → List Section → Type 0
IsVariantReport w changes t sections = IsReport w.links.ingress w (variant_world w changes) t sections
