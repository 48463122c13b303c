-- Which lines of a text are passed over, and where they stand.
use Rattle.std.specs.Prelude.{◌≡◌, ℕ, ◌+◌, ◌-◌, true, false, List, [], ◌∷◌, ◌++◌, Option, Some, None, is_some, Result, Ok, Err, if◌then◌else◌}
use Rattle.std.specs.Option.{option_or}
use Rattle.net_text.specs.declared.Line.{Line}
use Rattle.net_text.specs.declared.Span.{Span}
use Rattle.net_text.specs.Lines.{lines_of}
use Rattle.ios_lines.specs.declared.fault.Refusal.{Refusal}
use Rattle.ios_lines.specs.declared.effect.Action.TheVariants as action
use Rattle.ios_lines.specs.declared.effect.Effect.{Effect}
use Rattle.ios_lines.specs.declared.effect.Effect.TheVariants as effect
use Rattle.ios_lines.specs.declared.effect.Section.{Section}
use Rattle.ios_lines.specs.declared.effect.Section.TheVariants as section
use Rattle.ios_config.specs.declared.reader.Reading.{Reading}
use Rattle.ios_config.specs.declared.passed.Mode.{Mode}
use Rattle.ios_config.specs.declared.passed.Mode.TheVariants as mode
use Rattle.ios_config.specs.declared.passed.PassedLine.{PassedLine}
use Rattle.ios_config.specs.declared.passed.Survey.{Survey}
use Rattle.ios_config.specs.Rules.{opens, section_of}
use Rattle.ios_config.specs.Reads.{line_effect, refusal_in, early, effects, late_by, Reads, Refused}
use Rattle.ios_config.specs.Draft.{Parts, parts, parts_of, parts_after}
use Rattle.ios_config.specs.Answers.{IsEnd}

-- ---- lines

-- the byte at which the first word begins
abbrev pub first_byte : List Span → ℕ
first_byte [] = 0
first_byte (s ∷ ss) = s.start

-- an indented line stands in the section of the last global command
abbrev pub mode_in : Section → Mode
mode_in (section.Interface name) = mode.Interface
mode_in _ = mode.Other

-- a line that is passed over, by itself
abbrev pub one_line : Mode → Option ℕ → Line → PassedLine
one_line m under l = record { first = l.number; last = l.number; start = first_byte l.words; mode = m; under = under }

-- what is passed over at a line, by its effect: the line, or all lines of a banner
abbrev pub passed_at : Section → Option ℕ → Line → Effect → Option PassedLine
passed_at s under l (effect.Act (action.Pass true)) = Some (one_line mode.Global under l)
passed_at s under l (effect.Act (action.Pass false)) = Some (one_line (mode_in s) under l)
passed_at s under l (effect.Banner first last) = Some (record { first = first; last = last; start = first_byte l.words; mode = mode.Banner; under = under })
passed_at s under l _ = None

abbrev pub add_passed : Option PassedLine → List PassedLine → List PassedLine
add_passed None ps = ps
add_passed (Some p) ps = p ∷ ps

-- the byte at which the line begins that opened the section: the last global command
abbrev pub under_after : Option ℕ → Line → Effect → Option ℕ
under_after under l e = if is_some (opens e) then Some (first_byte l.words) else under

-- what is passed over at lines behind others, in order
abbrev pub passed_after : List ℕ → List Effect → Option ℕ → List Line → List PassedLine
passed_after bytes before under [] = []
passed_after bytes before under (l ∷ ls) =
    add_passed (passed_at (section_of before) under l (line_effect bytes before l))
    (passed_after bytes (before ++ line_effect bytes before l ∷ []) (under_after under l (line_effect bytes before l)) ls)

-- *the passed lines* of a text: each line whose effect is to be passed over, and the lines of each banner
abbrev pub passed_lines : List ℕ → List PassedLine
passed_lines bytes = passed_after bytes [] None (lines_of bytes)

-- how many lines these are
abbrev pub line_count : PassedLine → ℕ
line_count p = p.last + 1 - p.first

-- ---- texts

-- the configuration that the text says, or its first refusal
abbrev pub Says : List ℕ → Result Reading Refusal → Type 0
Says bytes (Ok r) = Reads bytes r.config r.passed
Says bytes (Err r) = Refused bytes r

-- ---- the steps

-- no line
pub record IsNew (s : Survey) : Type 0 where
  pub parts : parts s.draft ≡ parts_of []
  pub passed : s.passed.items ≡ []
  pub under : s.under ≡ None
  pub refusal : s.refusal ≡ None

-- one more line of this effect
pub record Adds (old new : Survey) (l : Line) (e : Effect) : Type 0 where
  pub parts : parts new.draft ≡ parts_after (parts old.draft) e
  pub passed : new.passed.items ≡ old.passed.items ++ add_passed (passed_at old.draft.section old.under l e) []
  pub under : new.under ≡ under_after old.under l e
  pub refusal : new.refusal ≡ option_or old.refusal (refusal_in e)

-- all lines
pub record IsSurvey (bytes : List ℕ) (s : Survey) : Type 0 where
  pub parts : parts s.draft ≡ parts_of (effects bytes)
  pub passed : s.passed.items ≡ passed_lines bytes
  pub refusal : s.refusal ≡ early (effects bytes)

-- the refusal of a line, or what is judged after the last line
abbrev pub Judges : Option Refusal → Parts → Result Reading Refusal → Type 0
Judges (Some r) p result = result ≡ Err r
Judges None p (Ok reading) = IsEnd p reading
Judges None p (Err r) = late_by p.hostname p.names p.interfaces p.routes ≡ Some r
