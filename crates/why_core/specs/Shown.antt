-- What is shown of the groups that are explained, and of traces, in each format.
use Rattle.std.specs.Prelude.{◌≡◌, ℕ, List, ◌++◌, flat_map, length, map, codes, decimal}
use Rattle.std.specs.List.{join_by}
use Rattle.hdr_bits.specs.declared.header.Header.{Header}
use Rattle.net_types.specs.declared.network.Names.{Names}
use Rattle.report_groups.specs.Least.{least_of}
use Rattle.walk_trace.specs.declared.types.Trace.{Trace}
use Rattle.trace_sides.specs.Sides.{sides_text}
use Rattle.view_core.specs.declared.words.Format.{Format}
use Rattle.view_core.specs.declared.words.Format.TheVariants as format
use Rattle.why_core.specs.declared.words.Manner.{Manner}
use Rattle.why_core.specs.Cases.{Case, Ground, explained, new_trace, old_trace, told_text}
use Rattle.why_core.specs.ShownJson.{told_json, traces_json, why_front}
use Rattle.why_core.specs.Words.{Traces}

-- ---- explanations

-- what is said of a group
abbrev pub shown_of : Format → Names → Names → Case → Header → Trace → Trace → List ℕ
shown_of format.Text report names c h old new = told_text report names c h old new
shown_of format.Json report names c h old new = told_json report names c h old new

-- of its least header
abbrev pub case_shown : Format → Ground → Case → List ℕ
case_shown f g c = shown_of f g.report g.names c (least_of c.entry.group) (old_trace g c) (new_trace g c)

-- how many groups there are, and how many of them are explained
unfoldable pub counts_text : ℕ → ℕ → List ℕ
counts_text groups explained = codes "groups " ++ decimal groups ++ codes ", explained " ++ decimal explained ++ codes "\n\n"

-- of so many groups this is said of those that are explained: a text and a document are exactly that
abbrev pub IsGathered : Format → ℕ → List (List ℕ) → List ℕ → Type 0
IsGathered format.Text groups told text = text ≡ counts_text groups (length told) ++ flat_map (λ t. t) told
IsGathered format.Json groups told text = text ≡ why_front groups (length told) ++ join_by (λ t. t) (codes ",\n") told ++ codes "]}\n"

-- these groups are explained
abbrev pub IsShown : Ground → Manner → List Case → List ℕ → Type 0
IsShown g m cs text = IsGathered m.format (length cs) (map (case_shown m.format g) (explained m.all cs)) text

-- ---- traces

abbrev pub IsSides : Format → Names → Traces → Trace → Trace → List ℕ → Type 0
IsSides format.Text names w old new text = text ≡ sides_text names old new
IsSides format.Json names w old new text = text ≡ traces_json names w old new
