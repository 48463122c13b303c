-- What the words of the command line ask: --answers, a format, and the paths of the questions and of one or two files of answers.
use Rattle.std.specs.Prelude.{ℕ, Bool, ◌&&◌, List, [], ◌∷◌, Option, Some, None, is_some, codes, if◌then◌else◌}
use Rattle.std.specs.Str.{bytes_eq}
use Rattle.view_words.specs.Usage.{is_operand}
use Rattle.view_core.specs.declared.words.Format.{Format}
use Rattle.view_core.specs.Words as view

-- the words behind the command; none where it is another
abbrev pub format_words : List (List ℕ) → List (List ℕ)
format_words [] = []
format_words (command ∷ words) = if bytes_eq command (codes "--answers") then words else []

-- in which format the answers are shown: as text where none is asked for
abbrev pub format_of : List (List ℕ) → Format
format_of words = view.format_of (format_words words)

abbrev pub operands : List (List ℕ) → List (List ℕ)
operands words = view.behind_format (format_words words)

-- the paths of the questions and of the answers now, where the words between are operands too
abbrev pub paths_in : List (List ℕ) → Option (List ℕ × List ℕ)
paths_in (questions ∷ after ∷ []) = if is_operand questions && is_operand after then Some (questions, after) else None
paths_in (questions ∷ before ∷ after ∷ []) = if (is_operand questions && is_operand before) && is_operand after then Some (questions, after) else None
paths_in _ = None

abbrev pub paths_of : List (List ℕ) → Option (List ℕ × List ℕ)
paths_of words = paths_in (operands words)

-- that of the answers before, where there are three
abbrev pub before_in : List (List ℕ) → Option (List ℕ)
before_in (questions ∷ before ∷ after ∷ []) = Some before
before_in _ = None

abbrev pub before_of : List (List ℕ) → Option (List ℕ)
before_of words = before_in (operands words)

-- the words are within the usage
abbrev pub is_asked : List (List ℕ) → Bool
is_asked words = is_some (paths_of words)
