-- Headers that leave by an interface of the device where they arrived.
use Rattle.std.specs.Prelude.{List}
use Rattle.hdr_bits.specs.declared.header.Header.{Header}
use Rattle.cube_alg.specs.Stamps.{applied}
use Rattle.cube_diagram.specs.Functions.{Functions}
use Rattle.link_sends.specs.Sending.{next_address}
use Rattle.net_forms.specs.Forms.{IsSeatForm}
use Rattle.net_types.specs.declared.network.Move.{Move}
use Rattle.net_types.specs.Moves.{leave_with}
use Rattle.net_view.specs.Borrowed.{seat_of}
use Rattle.place_ways.specs.declared.leave.Leaving.{Leaving}
use Rattle.place_ways.specs.declared.parts.Part.{Part}
use Rattle.place_ways.specs.Adding.{ByOne, Makes}

-- the forms are those of the interface by which they leave
abbrev pub IsOut : Functions → Leaving → Type 0
IsOut fs l = IsSeatForm fs l.at.seat.device.now.config l.out.seat.interface.now l.out.form

-- the move of the header h of the lookup, of which g was made: the next address is that of h
abbrev pub leaves : Leaving → Header → Header → Move
leaves l h g = leave_with l.at.wiring.now (seat_of l.at.seat) g (next_address l.next h) (seat_of l.out.seat)

-- headers of one of the parts leave so, once its stamp was applied
abbrev pub LeavesByOne : Functions → List Part → Leaving → Header → Move → Type 0
LeavesByOne fs parts l h m = ByOne (λ (p : Part). Makes fs p.headers (λ q. leaves l q (applied p.stamp q)) h m) parts
