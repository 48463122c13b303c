-- Counts while they are made. No public contract names these.
use Rattle.std.specs.Prelude.{ℕ, ◌≡◌, List, unwrap_or}
use Rattle.std.specs.Map.{lookup}
use Rattle.std.specs.Str.{bytes_eq}
use Rattle.view_core.specs.declared.tallies.Count.{Count}
use Rattle.view_core.specs.declared.tallies.Counts.{Counts}
use Rattle.view_core.specs.declared.tallies.Tally.{Tally}
use Rattle.view_core.specs.declared.tallies.Version.{Version}
use Rattle.view_core.specs.Tallies.{count_of, no_count}

-- what is kept of a text
abbrev pub kept_count : Counts → List ℕ → Count
kept_count c text = unwrap_or (lookup (λ k. bytes_eq text k.items) c.counts.entries) no_count

-- each text's count is that of the list
abbrev pub AreCounts : List (List ℕ × ℕ) → Counts → Type 0
AreCounts ms c = (text : List ℕ) → kept_count c text ≡ count_of ms text

-- a tally by what is kept
abbrev pub tally_with : Version → Counts → List ℕ → Tally
tally_with v c text = record { version = v; text = text; count = kept_count c text }
