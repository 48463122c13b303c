-- The values of words, as they are computed from left to right.
use Rattle.std.specs.Prelude.{ℕ, ◌+◌, ◌*◌, min, List, Option, Some, None, take, drop, position, if◌then◌else◌, option_and_then, option_map}
use Rattle.std.specs.Str.{all_ascii_digits}
use Rattle.std.specs.Str.Parse.{digits_value}
use Rattle.ios_words.specs.Words.{is_numeral, octet_of, is_dot}

-- the number, but 2^32 where it is greater
abbrev pub capped_value : List ℕ → ℕ
capped_value word = min (digits_value 10 word) 4294967296

-- digits alone, or none, as that number
abbrev pub capped_of : List ℕ → Option ℕ
capped_of word = if all_ascii_digits word then Some (capped_value word) else None

-- digits, at least one, as that number
abbrev pub capped_number : List ℕ → Option ℕ
capped_number word = if is_numeral word then Some (capped_value word) else None

-- the number before the first dot, and what stands after the dot
abbrev pub dotted_of : List ℕ → Option (ℕ × List ℕ)
dotted_of word = option_and_then (λ i. option_map (λ n. (n, drop (i + 1) word)) (octet_of (take i word))) (position is_dot word)

infixl 10 ◌>>=◌
abbrev pub ◌>>=◌ : {A B : Type 0} → Option A → (A → Option B) → Option B
o >>= f = option_and_then f o

-- an address, read dot by dot
unfoldable pub address_steps : List ℕ → Option ℕ
address_steps word = do
  a ← dotted_of word
  b ← dotted_of a.1
  c ← dotted_of b.1
  d ← octet_of c.1
  Some (((a.0 * 256 + b.0) * 256 + c.0) * 256 + d)
