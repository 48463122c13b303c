-- Words that abbreviate those of a command, and what a pager and a prompt leave in a line.
use Rattle.std.specs.Prelude.{ℕ, ◌+◌, Bool, true, false, not, ◌&&◌, ◌||◌, List, [], ◌∷◌, map, take, drop, nat_eq, nat_le, ◌==◌, codes, if◌then◌else◌}
use Rattle.std.specs.List.{starts_with, list_any, position_or_len}
use Rattle.std.specs.Str.{bytes_eq}
use Rattle.net_text.specs.Lines.{is_separator}

-- the words of a command, by their bytes
abbrev pub Words : Type 0
Words = List (List ℕ)

abbrev pub is_inside : ℕ → Bool
is_inside b = not (is_separator b)

-- a line from its first word on
abbrev pub from_word : List ℕ → List ℕ
from_word line = drop (position_or_len is_inside line) line

-- its first word, up to the next separator; empty where there is none
abbrev pub first_word : List ℕ → List ℕ
first_word line = take (position_or_len is_separator (from_word line)) (from_word line)

-- what follows its first word
abbrev pub after_word : List ℕ → List ℕ
after_word line = drop (position_or_len is_separator (from_word line)) (from_word line)

-- a capital letter is taken for its small one
abbrev pub small : ℕ → ℕ
small b = if nat_le 65 b && nat_le b 90 then b + 32 else b

abbrev pub is_empty : List ℕ → Bool
is_empty [] = true
is_empty (b ∷ bs) = false

-- a word abbreviates another: it is a beginning of it, whatever its case, and has a letter
abbrev pub abbreviates : List ℕ → List ℕ → Bool
abbreviates word whole = not (is_empty word) && starts_with nat_eq whole (map small word)

-- the first words of a line abbreviate those of a command, word by word
unfoldable pub abbreviated : Words → List ℕ → Bool
abbreviated [] line = true
abbreviated (c ∷ cs) line = abbreviates (first_word line) c && abbreviated cs (after_word line)

-- the first words are those of a command
unfoldable pub begins : Words → List ℕ → Bool
begins [] line = true
begins (c ∷ cs) line = bytes_eq (first_word line) c && begins cs (after_word line)

-- the first words abbreviate those of a command, or write them in another case, and aren't them
unfoldable pub resembles : Words → List ℕ → Bool
resembles command line = abbreviated command line && not (begins command line)

-- a mark stands in a text
abbrev pub has_mark : List ℕ → List ℕ → Bool
has_mark mark [] = false
has_mark mark (b ∷ bs) = starts_with nat_eq (b ∷ bs) mark || has_mark mark bs

-- what a pager writes at the end of a screen
abbrev pub pager : List ℕ
pager = codes "--More--"

-- `#` or `>`
abbrev pub ends_prompt : ℕ → Bool
ends_prompt b = b == 35 || b == 62

-- the name of a device stands before the end of a prompt
abbrev pub is_prompt : List ℕ → Bool
is_prompt [] = false
is_prompt (b ∷ bs) = not (ends_prompt b) && list_any ends_prompt bs

abbrev pub has_prompt : List ℕ → Bool
has_prompt line = is_prompt (first_word line)
