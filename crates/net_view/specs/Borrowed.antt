-- What a borrowed network and a borrowed interface stand for.
use Rattle.net_types.specs.World.{World, Seat}
use Rattle.net_view.specs.declared.devices.WorldRef.{WorldRef}
use Rattle.net_view.specs.declared.seats.SeatRef.{SeatRef}

abbrev pub world_of : WorldRef → World
world_of w = record { network = w.network.now; links = w.links.now }

abbrev pub seat_of : SeatRef → Seat
seat_of p = record { place = p.place; device = p.device.now; interface = p.interface.now }
