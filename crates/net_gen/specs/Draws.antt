-- The ports that are drawn: a linear congruential generator modulo 2^64, with Knuth's multiplier for MMIX (The Art of
-- Computer Programming, volume 2, section 3.3.4) and an odd increment.
use Rattle.std.specs.Prelude.{ℕ, zero, suc, ◌+◌, ◌-◌, ◌*◌, ◌/◌, ◌%◌, ◌^◌}

abbrev pub step : ℕ → ℕ
step x = (x * 6364136223846793005 + 1442695040888963407) % 2 ^ 64

-- the state after so many steps
unfoldable pub state : ℕ → ℕ → ℕ
state number zero = number
state number (suc n) = step (state number n)

-- what a state gives: 1 to 60000
abbrev pub given : ℕ → ℕ
given x = 1 + x / 2 ^ 33 % 60000

-- the ports of device j, counted from 1: for the devices in turn the first is drawn, then the second
abbrev pub first_port : ℕ → ℕ → ℕ
first_port number j = given (state number (2 * j - 1))

abbrev pub second_port : ℕ → ℕ → ℕ
second_port number j = given (state number (2 * j))
