-- Headers and the numbers below 2 ^ 112 stand for each other.
use Rattle.std.proofs.Common.{ℕ, ◌^◌, ◌<◌, ◌≡◌, arith}
use Rattle.hdr_bits.specs.declared.header.Header.{Header}
use Rattle.hdr_bits.specs.HeaderBits.{number, header_of, IsHeader}

pub number-below : (h : Header) → IsHeader h → number h < 2 ^ 112
number-below h fits = omega (arith, fits.dst, fits.src, fits.proto, fits.dport, fits.sport, fits.flags)

pub number-header_of : (n : ℕ) → n < 2 ^ 112 → number (header_of n) ≡ n
number-header_of n below = omega arith

pub header_of-number : (h : Header) → IsHeader h → header_of (number h) ≡ h
header_of-number h fits =
    grind (arith, fits.dst, fits.src, fits.proto, fits.dport, fits.sport, fits.flags)

pub header_of-is_header : (n : ℕ) → IsHeader (header_of n)
header_of-is_header n =
    record {
      dst = omega arith;
      src = omega arith;
      proto = omega arith;
      dport = omega arith;
      sport = omega arith;
      flags = omega arith;
    }
