-- Stamps: which header a stamp makes of another, and which headers it sends into a cube.
use Rattle.std.specs.Prelude.{◌≡◌, ℕ, ◌+◌, ◌-◌, ◌*◌, ◌^◌, ◌<◌, ◌≤◌, Option, Some, None, ◌==◌, if◌then◌else◌, bit_and, MatchOption}
use Rattle.std.specs.Option.{unwrap_or, option_or}
use Rattle.std.specs.Int.{bit_at}
use Rattle.hdr_bits.specs.declared.header.Header.{Header}
use Rattle.hdr_bits.specs.declared.cube.Cube.{Cube}
use Rattle.hdr_bits.specs.HeaderBits.{number, IsHeader}
use Rattle.hdr_bits.specs.CubeBits.{IsIn}
use Rattle.cube_alg.specs.declared.stamp.Stamp.{Stamp}

-- the header with the stamp's fields
abbrev pub applied : Stamp → Header → Header
applied s h =
    record {
      dst = unwrap_or s.dst h.dst;
      src = unwrap_or s.src h.src;
      proto = h.proto;
      dport = unwrap_or s.dport h.dport;
      sport = unwrap_or s.sport h.sport;
      flags = h.flags;
    }

-- first the one stamp and then the later one: each field's last value
abbrev pub followed : Stamp → Stamp → Stamp
followed s later =
    record {
      src = option_or later.src s.src;
      dst = option_or later.dst s.dst;
      sport = option_or later.sport s.sport;
      dport = option_or later.dport s.dport;
    }

-- no replacement where the field has the value already
abbrev pub unless_same : Option ℕ → ℕ → Option ℕ
unless_same None field = None
unless_same (Some v) field = if v == field then None else Some v

-- what the stamp changes in the header
abbrev pub changed_fields : Stamp → Header → Stamp
changed_fields s h =
    record {
      src = unless_same s.src h.src;
      dst = unless_same s.dst h.dst;
      sport = unless_same s.sport h.sport;
      dport = unless_same s.dport h.dport;
    }

-- the stamp makes the header g of one of the cube
abbrev pub IsMadeFrom : Stamp → Cube → Header → Type 0
IsMadeFrom s c g = (h : Header) × IsHeader h × IsIn c (number h) × (applied s h ≡ g)

-- ---- how it is reckoned, on numbers

-- n is m with the digits at these bits replaced by the given ones
pub record IsReplaced (mask digits m n : ℕ) : Type 0 where
  pub within : (i : ℕ) → bit_at digits i ≤ bit_at mask i
  pub inside : (i : ℕ) → bit_at mask i ≡ 1 → bit_at n i ≡ bit_at digits i
  pub outside : (i : ℕ) → bit_at mask i ≡ 0 → bit_at n i ≡ bit_at m i

-- the bits of a field of this width, and its value there; none where nothing is replaced
abbrev pub IsFieldAt : ℕ → ℕ → Option ℕ → ℕ → ℕ → Type 0
IsFieldAt shift width value mask digits =
    MatchOption value ((mask ≡ 0) × (digits ≡ 0)) (λ v. (v < 2 ^ width) × (mask ≡ 2 ^ (shift + width) - 2 ^ shift) × (digits ≡ v * 2 ^ shift))

-- the bits and digits that the stamp replaces in a header's number
pub record Writes (s : Stamp) (mask digits : ℕ) : Type 0 where
  pub below : mask < 2 ^ 112
  pub fits : bit_and digits mask ≡ digits
  pub valid : (h : Header) → IsHeader h → IsHeader (applied s h)
  pub replaced : (h : Header) → IsHeader h → IsReplaced mask digits (number h) (number (applied s h))
