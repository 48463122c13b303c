-- A report with its groups as one document of JSON.
use Rattle.std.specs.Prelude.{ℕ, List, ◌++◌, length, codes, decimal}
use Rattle.std.specs.List.{join_by}
use Rattle.net_types.specs.declared.network.Names.{Names}
use Rattle.net_types.specs.declared.network.Row.{Row}
use Rattle.report_groups.specs.declared.types.Change.{Change}
use Rattle.report_groups.specs.declared.types.Entry.{Entry}
use Rattle.view_core.specs.declared.ingresses.Ingress.{Ingress}
use Rattle.view_core.specs.declared.tallies.Tally.{Tally}
use Rattle.json_text.specs.Chunks.{count_text}
use Rattle.view_core.specs.Groups.{change_words}
use Rattle.view_core.specs.GroupJson.{group_object}
use Rattle.view_core.specs.Ingresses.{untouched, group_count, kind_total, all_rows}
use Rattle.json_text.specs.Json.{place_members, row_text, string_member}
use Rattle.view_core.specs.Kinds.{kinds, in_order}
use Rattle.view_core.specs.Tallies.{tallies, version_words}

-- ---- the summary

-- a kind of change, and how many groups are of it
unfoldable pub kind_object : Change → ℕ → List ℕ
kind_object kind n = codes "{" ++ string_member (codes "kind") (change_words kind) ++ count_text (codes ", \"groups\": ") n ++ codes "}"

unfoldable pub kinds_array : List Ingress → List ℕ
kinds_array ingresses = join_by (λ kind. kind_object kind (kind_total ingresses kind)) (codes ", ") kinds

-- an outcome in a version of the network, with its groups and its rows
unfoldable pub tally_version : Tally → List ℕ
tally_version t = codes "{" ++ string_member (codes "version") (version_words t.version)

unfoldable pub tally_outcome : Tally → List ℕ
tally_outcome t = codes ", " ++ string_member (codes "outcome") t.text

abbrev pub tally_names : Tally → List ℕ
tally_names t = tally_version t ++ tally_outcome t

unfoldable pub tally_object : Tally → List ℕ
tally_object t =
    tally_names t
    ++ count_text (codes ", \"groups\": ") t.count.groups
    ++ count_text (codes ", \"rows\": ") t.count.rows
    ++ codes "}"

unfoldable pub tallies_array : Names → List Ingress → List ℕ
tallies_array names ingresses = join_by tally_object (codes ",\n") (tallies names ingresses)

-- how many groups there are, how many of each kind, and at how many ingresses nothing changes
abbrev pub groups_start : List Ingress → List ℕ
groups_start ingresses = count_text (codes "{\"groups\": ") (group_count ingresses)

abbrev pub untouched_member : List Ingress → List ℕ
untouched_member ingresses = count_text (codes "], \"untouched\": ") (untouched ingresses)

unfoldable pub sizes_members : List Ingress → List ℕ
sizes_members ingresses = groups_start ingresses ++ codes ", \"kinds\": [" ++ kinds_array ingresses ++ untouched_member ingresses

-- that, and the outcomes
unfoldable pub summary_object : Names → List Ingress → List ℕ
summary_object names ingresses = sizes_members ingresses ++ codes ",\n\"outcomes\": [" ++ tallies_array names ingresses ++ codes "]}"

-- ---- ingresses

abbrev pub groups_array : Names → List Entry → List ℕ
groups_array names groups = join_by (group_object names) (codes ",\n") groups

-- a place and its groups
unfoldable pub ingress_start : Names → Ingress → List Entry → List ℕ
ingress_start names i groups = codes "{" ++ place_members names i.section.place ++ codes ", \"groups\": [" ++ groups_array names groups

-- its rows
unfoldable pub ingress_end : Names → List Row → List ℕ
ingress_end names rows = codes "],\n\"rows\": [" ++ join_by (row_text names) (codes ",\n") rows ++ codes "]}"

-- both, the groups in the order in which they are shown
unfoldable pub ingress_object : Names → Ingress → List ℕ
ingress_object names i = ingress_start names i (in_order i.groups) ++ ingress_end names i.section.rows

-- ---- *the document*: the schema with its version, the number of all rows, the summary, and the ingresses

abbrev pub document_start : List Ingress → List ℕ
document_start ingresses = count_text (codes "{\"schema\": \"diqenyu-report\", \"version\": 1, \"affected\": ") (all_rows ingresses)

unfoldable pub report_json : Names → List Ingress → List ℕ
report_json names ingresses =
    document_start ingresses
    ++ codes ",\n\"summary\": " ++ summary_object names ingresses
    ++ codes ",\n\"ingresses\": [" ++ join_by (ingress_object names) (codes ",\n") ingresses
    ++ codes "]}\n"
