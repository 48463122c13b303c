-- The questions of a file, as they stand there.
use Rattle.std.specs.Prelude.{ℕ, Bool, false, ◌==◌, List, [], ◌∷◌, codes, if◌then◌else◌}
use Rattle.std.specs.List.{flat_map, join_by}
use Rattle.net_text.specs.declared.Line.{Line}
use Rattle.net_text.specs.Lines.{piece, lines_of}
use Rattle.answer_view.specs.declared.asked.Asked.{Asked}

-- the words of a line, with a blank between each two
abbrev pub words_in : List ℕ → Line → List ℕ
words_in bytes l = join_by (piece bytes) (codes " ") l.words

-- a comment begins with `!`
abbrev pub is_comment : List ℕ → Bool
is_comment [] = false
is_comment (b ∷ words) = b == 33

-- the question of line n, which has these words; a comment is none
abbrev pub asked_with : ℕ → List ℕ → List Asked
asked_with n words = if is_comment words then [] else record { line = n; words = words } ∷ []

abbrev pub asked_at : List ℕ → Line → List Asked
asked_at bytes l = asked_with l.number (words_in bytes l)

-- the questions of a text: its lines that have a word and are no comments, in their order
abbrev pub asked_in : List ℕ → List Asked
asked_in bytes = flat_map (asked_at bytes) (lines_of bytes)
