-- What becomes of packets that are sent out of an interface, for a whole cube of headers.
use Rattle.std.specs.Prelude.{ℕ, ◌≡◌}
use Rattle.hdr_bits.specs.declared.header.Header.{Header}
use Rattle.hdr_bits.specs.declared.cube.Cube.{Cube}
use Rattle.cube_alg.specs.declared.on_cube.OnCube.{OnCube}
use Rattle.cube_alg.specs.OnCubes.{OfOnCube}
use Rattle.net_types.specs.declared.network.Move.{Move}
use Rattle.net_types.specs.declared.network.Move.TheVariants as move
use Rattle.net_types.specs.declared.network.Place.{Place}
use Rattle.net_types.specs.Moves.{send}
use Rattle.net_types.specs.World.{World, segment_of}
use Rattle.link_sends.specs.declared.sent.Next.{Next}
use Rattle.link_sends.specs.declared.sent.Next.TheVariants.{Destination, Address}
use Rattle.link_sends.specs.declared.sent.Sent.{Sent}
use Rattle.link_sends.specs.declared.sent.Sent.TheVariants.{Exit, Go, Lost}

-- the address that is looked for on the segment
abbrev pub next_address : Next → Header → ℕ
next_address Destination h = h.dst
next_address (Address address) h = address

-- the move of a packet with this header that is sent out of the interface e
abbrev pub sent_move : Place → Header → Sent → Move
sent_move e h Exit = move.Exit e h
sent_move e h (Go q) = move.Go q h
sent_move e h Lost = move.Lost

-- what is said of a packet with this header
abbrev pub IsSent : World → Place → Next → Header → Sent → Type 0
IsSent w e next h s = send w e (next_address next h) h (segment_of w e) ≡ sent_move e h s

-- of packets of any header, to any next address, that are sent out of the interface e the same becomes in both worlds
abbrev pub SendAlike : World → World → Place → Type 0
SendAlike w v e = (h : Header) (a : ℕ) → send w e a h (segment_of w e) ≡ send v e a h (segment_of v e)

-- what becomes of packets with headers of the cube
abbrev pub OfSentOn : World → Place → Next → Cube → OnCube Sent → Type 0
OfSentOn w e next c result = OfOnCube (λ sent h. IsSent w e next h sent) c result
