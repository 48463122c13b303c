-- The networks that are compared.
use Rattle.net_types.specs.declared.network.Links.{Links}
use Rattle.net_types.specs.declared.network.Network.{Network}
use Rattle.net_types.specs.World.{World}

-- a network with its links
abbrev pub world : Network → Links → World
world network links = record { network = network; links = links }
