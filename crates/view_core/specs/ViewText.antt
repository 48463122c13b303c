-- The text of a report, as a person reads it.
use Rattle.std.specs.Prelude.{ℕ, ◌==◌, List, [], ◌∷◌, ◌++◌, length, codes, decimal, if◌then◌else◌}
use Rattle.std.specs.List.{flat_map}
use Rattle.net_types.specs.declared.network.Names.{Names}
use Rattle.report_groups.specs.declared.types.Change.{Change}
use Rattle.report_groups.specs.declared.types.Change.TheVariants as change
use Rattle.report_groups.specs.declared.types.Entry.{Entry}
use Rattle.report_text.specs.ReportText.{place_text}
use Rattle.view_core.specs.declared.ingresses.Ingress.{Ingress}
use Rattle.view_core.specs.declared.tallies.Count.{Count}
use Rattle.view_core.specs.declared.tallies.Tally.{Tally}
use Rattle.json_text.specs.Chunks.{count_text}
use Rattle.view_core.specs.Groups.{change_words, headers_text, group_text}
use Rattle.view_core.specs.Ingresses.{is_untouched, untouched, kind_total}
use Rattle.view_core.specs.Kinds.{kinds, of_kind, kind_count, in_order}
use Rattle.view_core.specs.Tallies.{tallies, version_words}

-- the line of a title, where there is one
abbrev pub title_line : List ℕ → List ℕ
title_line [] = []
title_line (c ∷ title) = (c ∷ title) ++ 10 ∷ []

-- the line that says how many ingresses there are
abbrev pub summary_head : ℕ → List ℕ
summary_head n = count_text (codes "summary: ingresses ") n ++ codes "\n"

-- ---- the summary

-- the line of a kind of change, where there are groups of it
abbrev pub kind_line : Change → ℕ → List ℕ
kind_line kind n = if n == 0 then [] else codes "  " ++ change_words kind ++ codes " " ++ decimal n ++ codes "\n"

unfoldable pub kind_lines : List Ingress → List ℕ
kind_lines ingresses = flat_map (λ kind. kind_line kind (kind_total ingresses kind)) kinds

-- the same in the line of an ingress
abbrev pub kind_part : Change → ℕ → List ℕ
kind_part kind n = if n == 0 then [] else change_words kind ++ codes " " ++ decimal n ++ codes ", "

unfoldable pub kind_parts : List Entry → List ℕ
kind_parts groups = flat_map (λ kind. kind_part kind (kind_count groups kind)) kinds

abbrev pub rows_end : ℕ → List ℕ
rows_end n = count_text (codes "rows ") n ++ codes "\n"

unfoldable pub changed_line : Names → Ingress → List ℕ
changed_line names i =
    codes "  ingress " ++ place_text names i.section.place ++ codes ": " ++ kind_parts i.groups ++ rows_end (length i.section.rows)

-- an ingress at which something changes
abbrev pub place_line : Names → Ingress → List ℕ
place_line names i = if is_untouched i then [] else changed_line names i

-- at how many of the ingresses nothing changes, where there are such
abbrev pub some_untouched : ℕ → ℕ → List ℕ
some_untouched n all = count_text (codes "  nothing changes at ") n ++ count_text (codes " of ") all ++ codes " ingresses\n"

abbrev pub untouched_line : ℕ → ℕ → List ℕ
untouched_line n all = if n == 0 then [] else some_untouched n all

-- the line of an outcome
abbrev pub tally_start : Tally → List ℕ
tally_start t = (codes "  " ++ version_words t.version ++ codes " ") ++ t.text

abbrev pub counts_text : Count → List ℕ
counts_text c = codes ": groups " ++ decimal c.groups ++ codes ", rows " ++ decimal c.rows ++ codes "\n"

unfoldable pub tally_line : Tally → List ℕ
tally_line t = tally_start t ++ counts_text t.count

unfoldable pub changes_text : Names → List Ingress → List ℕ
changes_text names ingresses =
    kind_lines ingresses
    ++ flat_map (place_line names) ingresses
    ++ untouched_line (untouched ingresses) (length ingresses)
    ++ flat_map tally_line (tallies names ingresses)
    ++ codes "\n"

abbrev pub no_change_text : ℕ → List ℕ
no_change_text n = count_text (codes "  no packet is treated differently at any of ") n ++ codes " ingresses\n\n"

-- what changes, or that nothing does at any ingress
abbrev pub summary_text : Names → List Ingress → List ℕ
summary_text names ingresses =
    if untouched ingresses == length ingresses then no_change_text (length ingresses) else changes_text names ingresses

-- ---- loops

-- a loop behind its ingress
unfoldable pub loop_line : Names → Ingress → Entry → List ℕ
loop_line names i e = codes "  ingress " ++ place_text names i.section.place ++ headers_text names e ++ codes "\n"

abbrev pub ingress_loops : Names → Ingress → List ℕ
ingress_loops names i = flat_map (loop_line names i) (of_kind i.groups change.Loops)

-- all loops, where there are such
abbrev pub or_no_loops : List ℕ → List ℕ
or_no_loops [] = []
or_no_loops (c ∷ text) = codes "loops\n" ++ (c ∷ text) ++ codes "\n"

abbrev pub loops_text : Names → List Ingress → List ℕ
loops_text names ingresses = or_no_loops (flat_map (ingress_loops names) ingresses)

-- ---- ingresses

-- how many rows and groups there are at an ingress
abbrev pub sizes_text : ℕ → ℕ → List ℕ
sizes_text rows groups = count_text (codes ": rows ") rows ++ count_text (codes ", groups ") groups ++ codes "\n"

abbrev pub heading_end : Ingress → List ℕ
heading_end i =
    if is_untouched i then codes ": nothing changes\n"
    else sizes_text (length i.section.rows) (length i.groups)

abbrev pub heading_text : Names → Ingress → List ℕ
heading_text names i = codes "ingress " ++ place_text names i.section.place ++ heading_end i

abbrev pub group_line : Names → Entry → List ℕ
group_line names e = codes "  " ++ group_text names e

-- an ingress with the lines of its groups
unfoldable pub ingress_text : Names → Ingress → List ℕ
ingress_text names i = heading_text names i ++ flat_map (group_line names) (in_order i.groups) ++ codes "\n"

-- *the text of a report*: its title, a summary, all loops, and each ingress with its groups
unfoldable pub view_text : List ℕ → Names → List Ingress → List ℕ
view_text title names ingresses =
    title_line title
    ++ summary_head (length ingresses)
    ++ summary_text names ingresses
    ++ loops_text names ingresses
    ++ flat_map (ingress_text names) ingresses
