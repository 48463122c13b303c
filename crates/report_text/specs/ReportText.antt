-- How outcomes, labels and reports are written.
use Rattle.std.specs.Prelude.{ℕ, List, [], ◌++◌, length, Option, Some, None, codes, decimal}
use Rattle.std.specs.List.{slice_index_or, flat_map, join_by, sum_by}
use Rattle.net_types.specs.declared.label.Outcome.{Outcome}
use Rattle.net_types.specs.declared.label.Outcome.TheVariants.{Dropped, Expired, Local, Exit}
use Rattle.net_types.specs.declared.network.Names.{Names}
use Rattle.net_types.specs.declared.network.Place.{Place}
use Rattle.net_types.specs.declared.network.Row.{Row}
use Rattle.net_types.specs.declared.network.Section.{Section}
use Rattle.report_text.specs.FieldText.{address_text, cube_text}

-- the name at a position: an empty word past the end
abbrev pub name_text : Names → ℕ → List ℕ
name_text names number = slice_index_or names.texts number []

-- a place: the device, then the interface
unfoldable pub place_text : Names → Place → List ℕ
place_text names p = name_text names p.device ++ codes " " ++ name_text names p.interface

-- a field of the final header behind its name, where it changed
abbrev pub change_text : List ℕ → (ℕ → List ℕ) → Option ℕ → List ℕ
change_text name text None = []
change_text name text (Some value) = name ++ text value

-- an outcome: how the walk ended, and where. A packet that left has behind that what changed of its header
unfoldable pub outcome_text : Names → Outcome → List ℕ
outcome_text names Dropped = codes "drop"
outcome_text names Expired = codes "expired"
outcome_text names (Local p) = codes "local " ++ place_text names p
outcome_text names (Exit p src dst sport dport) =
    codes "exit " ++ place_text names p
    ++ change_text (codes " src ") address_text src
    ++ change_text (codes " dst ") address_text dst
    ++ change_text (codes " sport ") decimal sport
    ++ change_text (codes " dport ") decimal dport

-- a label: its outcomes, with bars between them
abbrev pub label_text : Names → List Outcome → List ℕ
label_text names outcomes = join_by (outcome_text names) (codes " | ") outcomes

-- a row: three lines, the cube and what the old and the new network do with its headers
unfoldable pub row_text : Names → Row → List ℕ
row_text names row =
    cube_text row.cube ++ codes "\n"
    ++ codes "old " ++ label_text names row.old ++ codes "\n"
    ++ codes "new " ++ label_text names row.new ++ codes "\n"

-- the rows of an ingress, behind a line with their number
unfoldable pub section_text : Names → Section → List ℕ
section_text names s =
    codes "ingress " ++ place_text names s.place ++ codes " rows " ++ decimal (length s.rows) ++ codes "\n"
    ++ flat_map (row_text names) s.rows

-- the number of rows of all sections
abbrev pub row_count : List Section → ℕ
row_count sections = sum_by (λ s. length s.rows) sections

-- the last line, with the number of all rows
unfoldable pub affected_text : List Section → List ℕ
affected_text sections = codes "affected " ++ decimal (row_count sections) ++ codes "\n"

-- a report: its sections, and its last line
unfoldable pub report_text : Names → List Section → List ℕ
report_text names sections = flat_map (section_text names) sections ++ affected_text sections

-- the extent of a comparison: how many devices and ingresses there are, and how many rows
unfoldable pub summary_text : ℕ → List Section → List ℕ
summary_text devices sections =
    codes "devices " ++ decimal devices ++ codes "\n"
    ++ codes "ingresses " ++ decimal (length sections) ++ codes "\n"
    ++ affected_text sections
