-- Numbers and headers on the command line.
use Rattle.std.specs.Prelude.{ℕ, Bool, List, [], ◌∷◌, Option, Some, None, option_and_then, length, nat_lt, ◌==◌, if◌then◌else◌}
use Rattle.std.specs.List.{slice_split}
use Rattle.ios_words.specs.Words.{number_of, address_of}
use Rattle.hdr_bits.specs.declared.header.Header.{Header}

abbrev pub Word : Type 0
Word = List ℕ

-- a number from low to high, of one to twenty decimal digits
abbrev pub number_within : ℕ → ℕ → Word → Option ℕ
number_within low high word = if nat_lt 20 (length word) then None else number_of low high word

abbrev pub is_comma : ℕ → Bool
is_comma b = b == 44

infixl 10 ◌>>=◌
abbrev ◌>>=◌ : {A B : Type 0} → Option A → (A → Option B) → Option B
o >>= f = option_and_then f o

-- two addresses, a protocol, two ports and the flags
unfoldable pub header_with : Word → Word → Word → Word → Word → Word → Option Header
header_with dst_word src_word proto_word dport_word sport_word flags_word = do
  dst ← address_of dst_word
  src ← address_of src_word
  proto ← number_within 0 255 proto_word
  dport ← number_within 0 65535 dport_word
  sport ← number_within 0 65535 sport_word
  flags ← number_within 0 255 flags_word
  Some (record { dst = dst; src = src; proto = proto; dport = dport; sport = sport; flags = flags })

abbrev pub of_six : List Word → Option Header
of_six (dst ∷ src ∷ proto ∷ dport ∷ sport ∷ flags ∷ []) = header_with dst src proto dport sport flags
of_six _ = None

-- a header: six numbers with commas between, `dst,src,proto,dport,sport,flags`, the first two dotted
abbrev pub header_of : Word → Option Header
header_of word = of_six (slice_split is_comma word)
