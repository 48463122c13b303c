-- What is found of a region of headers: its graph; or its halves, where two of its headers take different entries on the way.
use Rattle.std.specs.Prelude.{◌≡◌}
use Rattle.hdr_bits.specs.declared.cube.Cube.{Cube}
use Rattle.net_types.specs.declared.network.Place.{Place}
use Rattle.net_types.specs.World.{World}
use Rattle.region_walk.specs.declared.regions.Explored.{Explored}
use Rattle.region_walk.specs.declared.regions.Explored.TheVariants as explored
use Rattle.region_walk.specs.Region.{AreHalves}
use Rattle.region_walk.specs.Divisions.{DividesOnTheWay}

abbrev pub OfExplored : World → Place → Cube → Explored → Type 0
OfExplored w p c (explored.Whole graph) = graph ≡ record { world = w; place = p; cube = c }
OfExplored w p c (explored.Halves low high) = AreHalves c low high × DividesOnTheWay w p c
