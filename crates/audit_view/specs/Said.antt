-- What the lines of an audit say. What is read may still be written otherwise: that it prints as the same bytes is a test of its own.
use Rattle.std.specs.Prelude.{ℕ, List, [], ◌∷◌, ◌++◌, reverse, Option, Some, None, codes, if◌then◌else◌}
use Rattle.std.specs.Str.{bytes_eq}
use Rattle.ios_words.specs.Words.{number_of}
use Rattle.report_text.specs.Reading.{next_word, skip_word}
use Rattle.audit_view.specs.declared.findings.Behind.{Behind}
use Rattle.audit_view.specs.declared.findings.Finding.{Finding}
use Rattle.audit_view.specs.declared.said.Kind.{Kind}
use Rattle.audit_view.specs.declared.said.Kind.TheVariants as kind
use Rattle.audit_view.specs.declared.said.Said.{Said}
use Rattle.audit_view.specs.declared.said.Said.TheVariants as said

-- ---- one line

abbrev pub kind_of : List ℕ → Kind
kind_of word = if bytes_eq word (codes "dead") then kind.Dead else kind.Redundant

abbrev pub entry_with : Option ℕ → List ℕ → Said
entry_with (Some n) word = said.Entry n (kind_of word)
entry_with None word = said.Other

abbrev pub by_with : Option ℕ → Said
by_with (Some n) = said.By n
by_with None = said.Other

-- behind `entry`: a sequence number and what is wrong
abbrev pub entry_said : List ℕ → Said
entry_said rest = entry_with (number_of 1 2147483647 (next_word rest)) (skip_word rest)

-- behind `by`: a sequence number
abbrev pub by_said : List ℕ → Said
by_said rest = by_with (number_of 1 2147483647 (next_word rest))

-- a line, by its first word
abbrev pub said_of : List ℕ → Said
said_of line =
    if bytes_eq (next_word line) (codes "list") then said.List
    else (if bytes_eq (next_word line) (codes "dst") then said.Row
    else (if bytes_eq (next_word line) (codes "by") then by_said (skip_word line)
    else (if bytes_eq (next_word line) (codes "entry") then entry_said (skip_word line)
    else said.Other)))

-- ---- lines, from the last to the first

-- what the lines behind one say, as far as no line above them has taken it: the findings of whole lists, those of a list whose line
-- is still to come, what takes packets of a finding that is, and rows
abbrev pub with_line : Said → List ℕ → Behind → Behind
with_line said.Row line b = record b { rows = b.rows ++ line ∷ [] }
with_line (said.By n) line b = record b { taken = b.taken ++ record { sequence = n; rows = reverse b.rows } ∷ []; rows = [] }
with_line (said.Entry n k) line b = record b { findings = b.findings ++ record { sequence = n; kind = k; taken = reverse b.taken } ∷ []; taken = [] }
with_line said.List line b = record b { lists = b.lists ++ reverse b.findings ∷ []; findings = [] }
with_line said.Other line b = b

abbrev pub nothing : Behind
nothing = record { lists = []; findings = []; taken = []; rows = [] }

abbrev pub behind : List (List ℕ) → Behind
behind [] = nothing
behind (line ∷ lines) = with_line (said_of line) line (behind lines)

-- the findings of each list, the last list first
abbrev pub said_in : List (List ℕ) → List (List Finding)
said_in lines = (behind lines).lists
