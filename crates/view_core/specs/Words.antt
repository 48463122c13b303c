-- What the words of the command line ask.
use Rattle.std.specs.Prelude.{ℕ, Bool, true, false, ◌||◌, List, [], ◌∷◌, Option, Some, None, unwrap_or, is_some, codes, if◌then◌else◌}
use Rattle.std.specs.Str.{bytes_eq}
use Rattle.view_words.specs.Usage.{is_operand, usage_text, version_text}
use Rattle.view_core.specs.declared.words.Format.{Format}
use Rattle.view_core.specs.declared.words.Format.TheVariants as format
use Rattle.view_core.specs.declared.words.Manner.{Manner}

-- the format that an option asks for
abbrev pub format_named : List ℕ → Option Format
format_named word =
    if bytes_eq word (codes "--json") then Some format.Json else None

-- the format that the first word asks for, and else text
abbrev pub format_of : List (List ℕ) → Format
format_of [] = format.Text
format_of (word ∷ words) = unwrap_or (format_named word) format.Text

abbrev pub behind_format : List (List ℕ) → List (List ℕ)
behind_format [] = []
behind_format (word ∷ words) = if is_some (format_named word) then words else word ∷ words

-- a text may have a title
abbrev pub has_title : Format → Bool
has_title format.Text = true
has_title format.Json = false

abbrev pub is_title : List ℕ → Bool
is_title word = bytes_eq word (codes "--title")

-- the title behind the option for it; an empty one where there is none
abbrev pub title_in : List (List ℕ) → List ℕ
title_in (option ∷ title ∷ words) = if is_title option then title else []
title_in _ = []

abbrev pub behind_title : List (List ℕ) → List (List ℕ)
behind_title (option ∷ title ∷ words) = if is_title option then words else option ∷ title ∷ words
behind_title words = words

-- the words without the option of a format and then the title
abbrev pub paths_of : List (List ℕ) → List (List ℕ)
paths_of words = if has_title (format_of words) then behind_title (behind_format words) else behind_format words

abbrev pub title_of : List (List ℕ) → List ℕ
title_of words = if has_title (format_of words) then title_in (behind_format words) else []

-- the path of the report
abbrev pub path_in : List (List ℕ) → Option (List ℕ)
path_in (path ∷ []) = if is_operand path then Some path else None
path_in _ = None

abbrev pub path_of : List (List ℕ) → Option (List ℕ)
path_of words = path_in (paths_of words)

-- in which form the report is shown, and with which title
abbrev pub manner_of : List (List ℕ) → Manner
manner_of words = record { format = format_of words; title = title_of words }

-- what is said without a report: how the program is used, and which it is
abbrev pub said_of : List ℕ → Option (List ℕ)
said_of word =
    if bytes_eq word (codes "--help") then Some usage_text
    else (if bytes_eq word (codes "--version") then Some version_text else None)

abbrev pub said : List (List ℕ) → Option (List ℕ)
said (word ∷ []) = said_of word
said _ = None

-- the words are within the usage
abbrev pub is_asked : List (List ℕ) → Bool
is_asked words = is_some (said words) || is_some (path_of words)
