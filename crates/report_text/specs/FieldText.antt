-- How addresses, the fields of a cube, cubes and headers are written.
use Rattle.std.specs.Prelude.{ℕ, zero, suc, ◌-◌, ◌/◌, ◌%◌, ◌^◌, ◌<◌, ◌≡◌, ◌==◌, ◌||◌, List, [], ◌++◌, Option, Some, None, bit_and, codes, decimal, nat_lt, if◌then◌else◌}
use Rattle.std.specs.List.{find, range_with_len}
use Rattle.std.specs.Int.{bit_at}
use Rattle.hdr_bits.specs.declared.cube.Cube.{Cube}
use Rattle.hdr_bits.specs.declared.header.Header.{Header}
use Rattle.hdr_bits.specs.HeaderBits.{header_of}

-- an address: its four octets in decimal, with dots between them
unfoldable pub address_text : ℕ → List ℕ
address_text a =
    decimal (a / 2 ^ 24)
    ++ codes "." ++ decimal (a / 2 ^ 16 % 2 ^ 8)
    ++ codes "." ++ decimal (a / 2 ^ 8 % 2 ^ 8)
    ++ codes "." ++ decimal (a % 2 ^ 8)

-- a bit: `*` where it isn't fixed, and else its digit
abbrev pub digit_text : ℕ → ℕ → List ℕ
digit_text fixed bit = if fixed == 0 then codes "*" else decimal bit

-- the lowest `width` bits, the most significant one first
unfoldable pub ternary_text : ℕ → ℕ → ℕ → List ℕ
ternary_text zero fixed bits = []
ternary_text (suc k) fixed bits = digit_text (bit_at fixed k) (bit_at bits k) ++ ternary_text k fixed bits

-- the mask of the first `length` of 32 bits
abbrev pub prefix_mask : ℕ → ℕ
prefix_mask length = 2 ^ 32 - 2 ^ (32 - length)

-- how long the prefix is, 1 to 31, whose bits are the fixed ones, if there is one
unfoldable pub prefix_length : ℕ → Option ℕ
prefix_length fixed = find (λ length. prefix_mask length == fixed) (range_with_len 1 31)

-- an address of which some bits are fixed and some are not, by the length of the prefix if it is one
abbrev pub partial_text : Option ℕ → ℕ → ℕ → List ℕ
partial_text (Some length) fixed bits = address_text bits ++ codes "/" ++ decimal length
partial_text None fixed bits = ternary_text 32 fixed bits

-- a field that is an address, by its fixed bits and the digits at those: `*`, an address, `A/len` or ternary digits
unfoldable pub address_field_text : ℕ → ℕ → List ℕ
address_field_text fixed bits =
    if fixed == 0 then codes "*"
    else (if fixed == 2 ^ 32 - 1 then address_text bits else partial_text (prefix_length fixed) fixed bits)

-- a field that is a number of `width` bits, likewise: `*`, the number or ternary digits
unfoldable pub number_field_text : ℕ → ℕ → ℕ → List ℕ
number_field_text width fixed bits =
    if fixed == 0 then codes "*" else (if fixed == 2 ^ width - 1 then decimal bits else ternary_text width fixed bits)

-- how many bits field 0 to 5 has: dst and src 32, proto and flags 8, dport and sport 16
abbrev pub width_of : ℕ → ℕ
width_of field = if nat_lt field 2 then 32 else (if field == 2 || field == 5 then 8 else 16)

-- a field by its place in a header: dst and src are addresses, the others are numbers
unfoldable pub field_text : ℕ → ℕ → ℕ → List ℕ
field_text field fixed bits = if nat_lt field 2 then address_field_text fixed bits else number_field_text (width_of field) fixed bits

-- which bits of a field are fixed, and the digits at these: no digit stands at another bit
pub record IsField (field fixed bits : ℕ) : Type 0 where
  pub known : field < 6
  pub below : fixed < 2 ^ width_of field
  pub digits : bit_and bits fixed ≡ bits

-- the six fields of a cube, each behind its name, by their fixed bits and the digits at those
unfoldable pub fields_text : Header → Header → List ℕ
fields_text fixed bits =
    codes "dst " ++ address_field_text fixed.dst bits.dst
    ++ codes " src " ++ address_field_text fixed.src bits.src
    ++ codes " proto " ++ number_field_text 8 fixed.proto bits.proto
    ++ codes " dport " ++ number_field_text 16 fixed.dport bits.dport
    ++ codes " sport " ++ number_field_text 16 fixed.sport bits.sport
    ++ codes " flags " ++ number_field_text 8 fixed.flags bits.flags

-- a cube
unfoldable pub cube_text : Cube → List ℕ
cube_text c = fields_text (header_of c.fixed) (header_of c.bits)

-- a header: as the cube of itself alone, where each of the 112 bits is fixed
unfoldable pub header_text : Header → List ℕ
header_text h = fields_text (header_of (2 ^ 112 - 1)) h
