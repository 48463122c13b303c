-- A header as a number of 112 bits, and back.
use Rattle.std.specs.Prelude.{ℕ, ◌+◌, ◌*◌, ◌/◌, ◌%◌, ◌^◌, ◌<◌}
use Rattle.hdr_bits.specs.declared.header.Header.{Header}

-- the number of a header: its six fields in order, the most significant bit first
abbrev pub number : Header → ℕ
number h =
    h.dst * 2 ^ 80 + h.src * 2 ^ 48 + h.proto * 2 ^ 40 + h.dport * 2 ^ 24 + h.sport * 2 ^ 8 + h.flags

-- the header with this number, below 2 ^ 112
abbrev pub header_of : ℕ → Header
header_of n =
    record {
      dst = n / 2 ^ 80 % 2 ^ 32;
      src = n / 2 ^ 48 % 2 ^ 32;
      proto = n / 2 ^ 40 % 2 ^ 8;
      dport = n / 2 ^ 24 % 2 ^ 16;
      sport = n / 2 ^ 8 % 2 ^ 16;
      flags = n % 2 ^ 8;
    }

-- each field fits its size, as it does in every header that a program holds
pub record IsHeader (h : Header) : Type 0 where
  pub dst : h.dst < 2 ^ 32
  pub src : h.src < 2 ^ 32
  pub proto : h.proto < 2 ^ 8
  pub dport : h.dport < 2 ^ 16
  pub sport : h.sport < 2 ^ 16
  pub flags : h.flags < 2 ^ 8
