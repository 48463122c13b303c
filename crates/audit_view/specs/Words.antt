-- What the words of the command line ask: --audit, a format, --rows, and two paths.
use Rattle.std.specs.Prelude.{ℕ, Bool, false, ◌&&◌, List, [], ◌∷◌, Option, Some, None, is_some, codes, if◌then◌else◌}
use Rattle.std.specs.Str.{bytes_eq}
use Rattle.view_core.specs.declared.words.Format.{Format}
use Rattle.view_core.specs.Words as view
use Rattle.audit_view.specs.declared.words.Manner.{Manner}
use Rattle.view_words.specs.Usage.{is_operand}

-- the words behind the command; none where it is another
abbrev pub format_words : List (List ℕ) → List (List ℕ)
format_words [] = []
format_words (command ∷ words) = if bytes_eq command (codes "--audit") then words else []

-- in which form the audit is shown: as text where no format is asked for
abbrev pub format_of : List (List ℕ) → Format
format_of words = view.format_of (format_words words)

abbrev pub rows_words : List (List ℕ) → List (List ℕ)
rows_words words = view.behind_format (format_words words)

abbrev pub is_flag : List (List ℕ) → Bool
is_flag [] = false
is_flag (word ∷ words) = bytes_eq word (codes "--rows")

abbrev pub behind_flag : List (List ℕ) → List (List ℕ)
behind_flag [] = []
behind_flag (word ∷ words) = if bytes_eq word (codes "--rows") then words else word ∷ words

-- whether the rows are asked for
abbrev pub has_rows : List (List ℕ) → Bool
has_rows words = is_flag (rows_words words)

-- the path of what the audit wrote, and that of the network's folder
abbrev pub both_paths : List (List ℕ) → Option (List ℕ × List ℕ)
both_paths (findings ∷ net ∷ []) = if is_operand findings && is_operand net then Some (findings, net) else None
both_paths _ = None

abbrev pub paths_of : List (List ℕ) → Option (List ℕ × List ℕ)
paths_of words = both_paths (behind_flag (rows_words words))

-- in which form, and whether with the rows
abbrev pub manner_of : List (List ℕ) → Manner
manner_of words = record { format = format_of words; rows = has_rows words }

-- the words are within the usage
abbrev pub is_asked : List (List ℕ) → Bool
is_asked words = is_some (paths_of words)
