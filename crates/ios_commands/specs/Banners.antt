-- Banners: banner W TEXT.
use Rattle.std.specs.Prelude.{ℕ, ◌+◌, Bool, true, false, List, [], ◌∷◌, drop, take, length, nat_eq, Option, Some, None, option_map, slice_get, if◌then◌else◌, codes}
use Rattle.std.specs.List.{starts_with}
use Rattle.net_text.specs.declared.Line.{Line}
use Rattle.net_text.specs.declared.Span.{Span}
use Rattle.net_text.specs.Lines.{is_line_end}
use Rattle.ios_lines.specs.declared.fault.Kind.{Kind}
use Rattle.ios_lines.specs.declared.fault.Kind.TheVariants as kind
use Rattle.ios_lines.specs.declared.effect.Effect.{Effect}
use Rattle.ios_lines.specs.declared.effect.Effect.TheVariants as effect
use Rattle.ios_lines.specs.Words.{Word, Words, begins}

-- the command is a global one
abbrev pub is_banner : Bool → Words → Bool
is_banner true words = false
is_banner false words = begins (codes "banner" ∷ []) words

-- the delimiter is the two characters ^C where the text begins so, else its first byte
abbrev pub delimiter : List ℕ → Word
delimiter text = if starts_with nat_eq text (codes "^C") then codes "^C" else take 1 text

abbrev pub past : Bool → ℕ → ℕ
past true n = n + 1
past false n = n

-- how many lines end before the next place of the delimiter
abbrev pub lines_before : Word → List ℕ → Option ℕ
lines_before mark [] = None
lines_before mark (b ∷ bs) = if starts_with nat_eq (b ∷ bs) mark then Some 0 else option_map (past (is_line_end b)) (lines_before mark bs)

-- the text runs from after the delimiter to its next place
abbrev pub lines_within : List ℕ → Option ℕ
lines_within text = lines_before (delimiter text) (drop (length (delimiter text)) text)

abbrev pub banner_refused : Kind → ℕ → Effect
banner_refused k line = effect.Refused (record { kind = k; line = line; word = [] })

-- the lines that it is written on are passed over, up to the end of the last one
abbrev pub banner_over : ℕ → Option ℕ → Effect
banner_over line None = banner_refused kind.BannerOpen line
banner_over line (Some n) = effect.Banner line (line + n)

-- the text begins at the third word
abbrev pub banner_at : List ℕ → ℕ → Option Span → Effect
banner_at bytes line None = banner_refused kind.MissingWord line
banner_at bytes line (Some s) = banner_over line (lines_within (drop s.start bytes))

abbrev pub banner_effect : List ℕ → Line → Effect
banner_effect bytes l = banner_at bytes l.number (slice_get l.words 2)
