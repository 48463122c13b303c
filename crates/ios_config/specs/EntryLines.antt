-- Where the entries of access lists are written.
use Rattle.std.specs.Prelude.{ℕ, ◌-◌, List, [], ◌∷◌, ◌++◌, Option, Some, None, length, slice_get, option_map, option_to_list}
use Rattle.net_text.specs.declared.Line.{Line}
use Rattle.net_text.specs.declared.Span.{Span}
use Rattle.net_text.specs.Lines.{lines_of}
use Rattle.ios_lines.specs.declared.effect.Effect.{Effect}
use Rattle.ios_lines.specs.declared.effect.ListLine.{ListLine}
use Rattle.ios_lines.specs.Words.{Word}
use Rattle.ios_config.specs.declared.entries.EntryLine.{EntryLine}
use Rattle.ios_config.specs.Passed.{first_byte}
use Rattle.ios_config.specs.Reads.{line_effect}
use Rattle.ios_config.specs.Rules.{about_list}

-- the byte behind the last word
abbrev pub end_of : Option Span → ℕ
end_of None = 0
end_of (Some s) = s.end

abbrev pub last_byte : List Span → ℕ
last_byte words = end_of (slice_get words (length words - 1))

-- the entry that a line of a list writes, if it writes one: a line that opens the list and a remark write none
abbrev pub entry_written : Line → Option (Word × ListLine) → Option EntryLine
entry_written l None = None
entry_written l (Some w) = option_map (λ e. record { list = w.0; sequence = e.sequence; line = l.number; start = first_byte l.words; end = last_byte l.words }) w.1.entry

-- those of lines behind others, by the effect of each, in the order of the lines
abbrev pub entries_after : List ℕ → List Effect → List Line → List EntryLine
entries_after bytes before [] = []
entries_after bytes before (l ∷ ls) =
    option_to_list (entry_written l (about_list (line_effect bytes before l)))
    ++ entries_after bytes (before ++ line_effect bytes before l ∷ []) ls

-- the lines of a text that write an entry of an access list
abbrev pub entry_lines : List ℕ → List EntryLine
entry_lines bytes = entries_after bytes [] (lines_of bytes)
