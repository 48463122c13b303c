-- Lists of cubes as tests of a header.
use Rattle.std.specs.Prelude.{ℕ, ◌/◌, ◌%◌, ◌^◌, Bool, false, ◌&&◌, List, Option, Some, None}
use Rattle.std.specs.List.{list_any}
use Rattle.hdr_bits.specs.declared.header.Header.{Header}
use Rattle.hdr_bits.specs.declared.cube.Cube.{Cube}
use Rattle.hdr_bits.specs.CubeBits.{is_in}
use Rattle.net_types.specs.declared.config.Entry.{Entry}
use Rattle.net_types.specs.AccessLists.{is_proto, agrees, meets_icmp}

-- the header with this number is in one of the cubes
abbrev pub any_in : List Cube → ℕ → Bool
any_in cubes h = list_any (λ c. is_in c h) cubes

-- it is in the cube, if there is one
abbrev pub is_in_some : Option Cube → ℕ → Bool
is_in_some None h = false
is_in_some (Some c) h = is_in c h

-- the field of this width above the lowest bits of a header's number
abbrev pub field : ℕ → ℕ → ℕ → ℕ
field shift width h = h / 2 ^ shift % 2 ^ width

-- the parts of an entry that take one cube each: the protocol, the addresses, the ICMP type and code
abbrev pub meets_one_cube : Entry → Header → Bool
meets_one_cube e h = ((is_proto e.proto h.proto && agrees e.src h.src) && agrees e.dst h.dst) && meets_icmp e.icmp h.sport
