-- What the words of a configuration stand for.
use Rattle.std.specs.Prelude.{ℕ, ◌+◌, ◌-◌, ◌*◌, ◌^◌, Bool, ◌&&◌, List, [], ◌∷◌, Option, Some, None, length, map, find, nat_lt, nat_le, ◌==◌, if◌then◌else◌}
use Rattle.std.specs.List.{slice_split, range_with_len}
use Rattle.std.specs.Str.{all_ascii_digits}
use Rattle.std.specs.Str.Parse.{digits_value}

-- decimal digits alone, at least one
abbrev pub is_numeral : List ℕ → Bool
is_numeral word = nat_lt 0 (length word) && all_ascii_digits word

-- from low to high, both included
abbrev pub is_within : ℕ → ℕ → ℕ → Bool
is_within low high n = nat_le low n && nat_le n high

-- a number from low to high
abbrev pub number_of : ℕ → ℕ → List ℕ → Option ℕ
number_of low high word = if is_numeral word && is_within low high (digits_value 10 word) then Some (digits_value 10 word) else None

-- one to three digits, up to 255
abbrev pub octet_of : List ℕ → Option ℕ
octet_of part = if nat_lt 3 (length part) then None else number_of 0 255 part

-- `.`
abbrev pub is_dot : ℕ → Bool
is_dot b = b == 46

-- four bytes, the highest first
abbrev pub of_four : List (Option ℕ) → Option ℕ
of_four (Some a ∷ Some b ∷ Some c ∷ Some d ∷ []) = Some (((a * 256 + b) * 256 + c) * 256 + d)
of_four _ = None

-- an address: four numbers of one to three digits up to 255, with dots between
abbrev pub address_of : List ℕ → Option ℕ
address_of word = of_four (map octet_of (slice_split is_dot word))

-- the mask of 32 bits whose first n bits are ones
abbrev pub mask_of : ℕ → ℕ
mask_of n = 2 ^ 32 - 2 ^ (32 - n)

-- a mask is that of this length
abbrev pub is_mask : ℕ → ℕ → Bool
is_mask mask n = mask_of n == mask

-- the length of a contiguous mask
abbrev pub mask_length_of : ℕ → Option ℕ
mask_length_of mask = find (is_mask mask) (range_with_len 0 33)
