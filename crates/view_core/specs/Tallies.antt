-- How many groups and rows have an outcome.
use Rattle.std.specs.Prelude.{ℕ, ◌+◌, ◌-◌, ◌^◌, List, ◌++◌, fold, map, min, codes, if◌then◌else◌}
use Rattle.std.specs.List.{flat_map}
use Rattle.std.specs.Str.{bytes_eq}
use Rattle.net_types.specs.declared.label.Outcome.{Outcome}
use Rattle.net_types.specs.declared.network.Names.{Names}
use Rattle.topo_links.specs.Names.{add_names, sorted_names}
use Rattle.report_groups.specs.declared.types.Entry.{Entry}
use Rattle.report_text.specs.ReportText.{outcome_text}
use Rattle.view_core.specs.declared.ingresses.Ingress.{Ingress}
use Rattle.view_core.specs.declared.tallies.Count.{Count}
use Rattle.view_core.specs.declared.tallies.Mention.{Mention}
use Rattle.view_core.specs.declared.tallies.Tally.{Tally}
use Rattle.view_core.specs.declared.tallies.Version.{Version}
use Rattle.view_core.specs.declared.tallies.Version.TheVariants as version

abbrev pub version_words : Version → List ℕ
version_words version.New = codes "new"
version_words version.Old = codes "old"

-- what the group does in the version of the network
abbrev pub outcomes_in : Version → Entry → List Outcome
outcomes_in version.New e = e.group.new
outcomes_in version.Old e = e.group.old

-- a group has an outcome with this text, and stands for so many rows
abbrev pub mention_of : Names → ℕ → Outcome → List ℕ × ℕ
mention_of names rows o = (outcome_text names o, rows)

abbrev pub group_mentions : Names → Version → Entry → List (List ℕ × ℕ)
group_mentions names v e = map (mention_of names e.rows) (outcomes_in v e)

abbrev pub ingress_mentions : Names → Version → Ingress → List (List ℕ × ℕ)
ingress_mentions names v i = flat_map (group_mentions names v) i.groups

-- all outcomes of all groups in one version of the network
abbrev pub mentions : Names → Version → List Ingress → List (List ℕ × ℕ)
mentions names v ingresses = flat_map (ingress_mentions names v) ingresses

abbrev pub mention_in : Mention → List ℕ × ℕ
mention_in m = (m.text, m.rows)

-- one group and its rows more; a count stands still at its type's end
abbrev pub raised : Count → ℕ → Count
raised c rows = record { groups = min (c.groups + 1) (2 ^ 64 - 1); rows = min (c.rows + rows) (2 ^ 64 - 1) }

abbrev pub no_count : Count
no_count = record { groups = 0; rows = 0 }

-- how many groups have an outcome of this text, and for how many rows they stand
abbrev pub counted_more : List ℕ → Count → List ℕ × ℕ → Count
counted_more text c m = if bytes_eq text m.0 then raised c m.1 else c

abbrev pub count_of : List (List ℕ × ℕ) → List ℕ → Count
count_of ms text = fold (counted_more text) no_count ms

abbrev pub tally_of : Version → List (List ℕ × ℕ) → List ℕ → Tally
tally_of v ms text = record { version = v; text = text; count = count_of ms text }

-- *the tally*: of each outcome in the order of the texts
abbrev pub tally : Version → List (List ℕ × ℕ) → List Tally
tally v ms = map (tally_of v ms) (sorted_names (map (λ m. m.0) ms))

-- the outcomes in the new network, then those in the old one
unfoldable pub tallies : Names → List Ingress → List Tally
tallies names ingresses = tally version.New (mentions names version.New ingresses) ++ tally version.Old (mentions names version.Old ingresses)
