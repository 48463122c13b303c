-- The lines of a text that are passed over, as they are told: each line by itself.
use Rattle.std.specs.Prelude.{ℕ, zero, suc, ◌+◌, List, [], ◌∷◌, ◌++◌, map, min, length, Option, Some, None}
use Rattle.std.specs.List.{flat_map}
use Rattle.net_text.specs.Texts.{words}
use Rattle.topo_links.specs.Names.{add_names}
use Rattle.ios_config.specs.declared.passed.Mode.{Mode}
use Rattle.ios_config.specs.declared.passed.Mode.TheVariants as mode
use Rattle.ios_config.specs.declared.passed.PassedLine.{PassedLine}
use Rattle.ios_config.specs.Passed.{line_count, passed_lines}
use Rattle.doctor_warnings.specs.declared.told.ToldLine.{ToldLine}
use Rattle.doctor_warnings.specs.Lines.{end_of, line_at, trimmed}

-- lines one after the other, from this number and this byte on
abbrev pub told_from : List ℕ → PassedLine → ℕ → ℕ → ℕ → List ToldLine
told_from bytes p number start zero = []
told_from bytes p number start (suc n) =
    record { number = number; mode = p.mode; under = p.under; start = start } ∷ told_from bytes p (number + 1) (end_of bytes start + 1) n

-- a line that is passed over, from its first word on; and each line of a banner. None begins behind the end of the text
abbrev pub told_at : List ℕ → PassedLine → List ToldLine
told_at bytes p = told_from bytes p p.first (min p.start (length bytes)) (line_count p)

-- *the told lines* of a text: exactly those that are passed over
abbrev pub told_lines : List ℕ → List ToldLine
told_lines bytes = flat_map (told_at bytes) (passed_lines bytes)

-- the line up to its last word
abbrev pub told_text : List ℕ → ToldLine → List ℕ
told_text bytes t = trimmed (line_at bytes t.start)

-- the line that opened the section in which it stands; a global command and a banner stand in none
abbrev pub heading_at : List ℕ → Option ℕ → List ℕ
heading_at bytes None = []
heading_at bytes (Some start) = trimmed (line_at bytes start)

abbrev pub heading : List ℕ → Mode → Option ℕ → List ℕ
heading bytes mode.Banner under = []
heading bytes mode.Global under = []
heading bytes m under = heading_at bytes under

-- two lines are the same where they read alike and stand in sections that are opened alike
abbrev pub key : List ℕ → ToldLine → List ℕ
key bytes t = heading bytes t.mode t.under ++ 10 ∷ told_text bytes t

abbrev pub keys : List ℕ → List (List ℕ)
keys bytes = map (key bytes) (told_lines bytes)

-- ---- words

abbrev pub line_words : List ℕ → ToldLine → List (List ℕ)
line_words bytes t = words (told_text bytes t)

-- the words of all these lines, each once
abbrev pub passed_words : List ℕ → List (List ℕ)
passed_words bytes = add_names [] (flat_map (line_words bytes) (told_lines bytes))
