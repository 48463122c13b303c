-- Which values patterns and spans hold.
use Rattle.std.specs.Prelude.{ℕ, ◌≡◌, ◌<◌, ◌^◌, ◌==◌, ◌||◌, ◌&&◌, Bool, List, not, bit_and, nat_le, if◌then◌else◌}
use Rattle.std.specs.List.{list_any}
use Rattle.report_groups.specs.declared.types.Part.{Part}
use Rattle.report_groups.specs.declared.types.Part.TheVariants.{Run, Masked}
use Rattle.report_groups.specs.declared.types.Pattern.{Pattern}
use Rattle.report_groups.specs.declared.types.Span.{Span}
use Rattle.report_groups.specs.declared.types.Values.{Values}

-- the value has the pattern's digits at its bits
abbrev pub matches : ℕ → Pattern → Bool
matches v p = bit_and v p.fixed == p.bits

-- the value is from low to high
abbrev pub covers : ℕ → Span → Bool
covers v s = nat_le s.low v && nat_le v s.high

-- the spans and the other patterns hold exactly the values of `width` bits that the patterns hold
abbrev pub HoldSame : ℕ → List Pattern → List Span → List Pattern → Type 0
HoldSame width patterns spans others =
    (v : ℕ) → v < 2 ^ width → (list_any (covers v) spans || list_any (matches v) others) ≡ list_any (matches v) patterns

-- the value is in one of the spans, or matches one of the patterns
abbrev pub is_listed : ℕ → List Span → List Pattern → Bool
is_listed v spans others = list_any (covers v) spans || list_any (matches v) others

-- the value is in the part
abbrev pub is_in_part : ℕ → Part → Bool
is_in_part v (Run s) = covers v s
is_in_part v (Masked p) = matches v p

-- the value is one of those that are shown: it is in a part or, behind `not`, in none
abbrev pub holds : ℕ → Values → Bool
holds v values = if values.negated then not (list_any (is_in_part v) values.parts) else list_any (is_in_part v) values.parts

-- what is shown are exactly the values of `width` bits that the patterns hold
abbrev pub StandFor : ℕ → List Pattern → Values → Type 0
StandFor width patterns values = (v : ℕ) → v < 2 ^ width → holds v values ≡ list_any (matches v) patterns
