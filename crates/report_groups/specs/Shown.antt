-- Which headers are shown.
use Rattle.std.specs.Prelude.{ℕ, ◌≡◌, ◌<◌, ◌^◌, ◌==◌, ◌&&◌, Bool, List, not, bit_and, if◌then◌else◌}
use Rattle.std.specs.List.{list_any}
use Rattle.hdr_bits.specs.declared.header.Header.{Header}
use Rattle.hdr_bits.specs.HeaderBits.{IsHeader}
use Rattle.report_groups.specs.declared.types.Flags.{Flags}
use Rattle.report_groups.specs.declared.types.Flags.TheVariants.{Established, NotEstablished, Matching}
use Rattle.report_groups.specs.declared.types.Group.{Group}
use Rattle.report_groups.specs.declared.types.Pattern.{Pattern}
use Rattle.report_groups.specs.declared.types.Shown.{Shown}
use Rattle.report_groups.specs.Meaning.{is_in_group}
use Rattle.report_groups.specs.Values.{matches, holds}

-- ACK, 16, or RST, 4, is set
abbrev pub is_established : ℕ → Bool
is_established v = not (bit_and v 20 == 0)

-- whether the flags are those of `established`, or the others
abbrev pub is_established_as : Bool → ℕ → Bool
is_established_as set v = if set then is_established v else not (is_established v)

-- the flags are among those that are shown
abbrev pub holds_flags : ℕ → Flags → Bool
holds_flags v Established = is_established v
holds_flags v NotEstablished = not (is_established v)
holds_flags v (Matching patterns) = list_any (matches v) patterns

-- what is shown are exactly the flags that the patterns hold
abbrev pub FlagsStandFor : List Pattern → Flags → Type 0
FlagsStandFor patterns flags = (v : ℕ) → v < 2 ^ 8 → holds_flags v flags ≡ list_any (matches v) patterns

-- the header has a value in each field that is shown there
abbrev pub is_shown : Header → Shown → Bool
is_shown h s =
    holds h.dst s.dst && (holds h.src s.src && (holds h.proto s.proto && (holds h.dport s.dport && (holds h.sport s.sport && holds_flags h.flags s.flags))))

-- the fields that are shown hold exactly the headers of the group
pub record ShowsGroup (g : Group) (s : Shown) : Type 0 where
  pub same : (h : Header) → IsHeader h → is_shown h s ≡ is_in_group h g
