-- Why a job ends without a report: the status, and the line on the error output.
use Rattle.std.specs.Prelude.{ℕ, List, [], ◌∷◌, ◌++◌, codes, decimal}
use Rattle.job_core.specs.declared.stop.Stop.{Stop}
use Rattle.job_core.specs.declared.stop.Stop.TheVariants as stop
use Rattle.job_core.specs.Lines.{no_memory_text}

abbrev pub status_of : Stop → ℕ
status_of (stop.Refused path line kind word) = 3
status_of (stop.HostnameTaken first second) = 3
status_of (stop.CannotRead path) = 4
status_of (stop.TooLong path) = 5
status_of (stop.TooManyFiles path) = 5
status_of stop.NoMemory = 7
status_of (stop.NotFound path) = 8

-- a word behind a blank, or nothing where there is none
abbrev pub word_text : List ℕ → List ℕ
word_text [] = []
word_text (c ∷ word) = 32 ∷ c ∷ word

-- these words, a path and the end of the line
abbrev pub path_line : List ℕ → List ℕ → List ℕ
path_line words path = words ++ path ++ 10 ∷ []

-- `cannot read PATH`
abbrev pub cannot_read_line : List ℕ → List ℕ
cannot_read_line path = path_line (codes "cannot read ") path

-- `refused PATH hostname taken by PATH`, the later file first
abbrev pub taken_line : List ℕ → List ℕ → List ℕ
taken_line first second = codes "refused " ++ second ++ codes " hostname taken by " ++ first ++ 10 ∷ []

-- `refused PATH line N KIND WORD`, without a blank where there is no kind or no word
abbrev pub refused_head : List ℕ → ℕ → List ℕ
refused_head path n = codes "refused " ++ path ++ codes " line " ++ decimal n

abbrev pub refused_tail : List ℕ → List ℕ → List ℕ
refused_tail kind word = word_text kind ++ word_text word ++ 10 ∷ []

abbrev pub refused_line : List ℕ → ℕ → List ℕ → List ℕ → List ℕ
refused_line path n kind word = refused_head path n ++ refused_tail kind word

abbrev pub line_of : Stop → List ℕ
line_of (stop.Refused path line kind word) = refused_line path line kind word
line_of (stop.HostnameTaken first second) = taken_line first second
line_of (stop.CannotRead path) = cannot_read_line path
line_of (stop.TooLong path) = path_line (codes "too long ") path
line_of (stop.TooManyFiles path) = path_line (codes "too many files ") path
line_of stop.NoMemory = no_memory_text
line_of (stop.NotFound path) = path_line (codes "not found ") path
