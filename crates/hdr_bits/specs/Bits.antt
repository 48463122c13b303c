-- The bits of a header's number.
use Rattle.std.specs.Prelude.{ℕ, ◌-◌, ◌/◌, ◌%◌, ◌^◌, bit_xor}

-- bit k of a number of 112 bits, where bit 0 is the most significant one
abbrev pub bit_of : ℕ → ℕ → ℕ
bit_of n k = n / 2 ^ (111 - k) % 2

-- the number with bit k flipped
abbrev pub flipped : ℕ → ℕ → ℕ
flipped n k = bit_xor n (2 ^ (111 - k))
