-- How bytes of a file are shown.
use Rattle.std.specs.Prelude.{ℕ, ◌+◌, ◌==◌, ◌||◌, ◌/◌, ◌%◌, List, [], ◌∷◌, nat_lt, if◌then◌else◌}
use Rattle.std.specs.List.{flat_map}

-- a hexadecimal digit
abbrev pub hex_digit : ℕ → ℕ
hex_digit d = if nat_lt d 10 then 48 + d else 87 + d

-- a control character is shown as `\xHH`
unfoldable pub shown_byte : ℕ → List ℕ
shown_byte b = if nat_lt b 32 || b == 127 then 92 ∷ 120 ∷ hex_digit (b / 16) ∷ hex_digit (b % 16) ∷ [] else b ∷ []

abbrev pub shown : List ℕ → List ℕ
shown text = flat_map shown_byte text
