-- The lines of a text as they stand.
use Rattle.std.specs.Prelude.{ℕ, zero, suc, ◌+◌, List, [], ◌∷◌, take, drop, if◌then◌else◌}
use Rattle.std.specs.List.{position_or_len}
use Rattle.net_text.specs.Lines.{is_line_end, is_separator}

-- a line without what separates behind its last word
abbrev pub keep_word : ℕ → List ℕ → List ℕ
keep_word b [] = if is_separator b then [] else b ∷ []
keep_word b (c ∷ cs) = b ∷ c ∷ cs

abbrev pub trimmed : List ℕ → List ℕ
trimmed [] = []
trimmed (b ∷ bs) = keep_word b (trimmed bs)

-- the byte at which a line ends that begins, or is entered, at a byte of the text
abbrev pub end_of : List ℕ → ℕ → ℕ
end_of bytes at = at + position_or_len is_line_end (drop at bytes)

-- the line from this byte on
abbrev pub line_at : List ℕ → ℕ → List ℕ
line_at bytes at = take (position_or_len is_line_end (drop at bytes)) (drop at bytes)

-- the byte at which a line begins, so many lines behind the one that begins at a byte
abbrev pub start_behind : List ℕ → ℕ → ℕ → ℕ
start_behind bytes zero at = at
start_behind bytes (suc n) at = start_behind bytes n (end_of bytes at + 1)

-- the line of a number, from 1; none has the number 0
abbrev pub nth_line : List ℕ → ℕ → List ℕ
nth_line bytes zero = []
nth_line bytes (suc n) = line_at bytes (start_behind bytes n 0)
