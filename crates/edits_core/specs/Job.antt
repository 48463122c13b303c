-- A network that is edited: what the words ask, over what the files tell alone.
use Rattle.std.specs.Prelude.{◌≡◌, ◌<◌, ◌≤◌, ℕ, List, [], Option, None, Some, Result, Ok, Err, length}
use Rattle.net_types.specs.declared.config.Loaded.{Loaded}
use Rattle.net_types.specs.declared.network.Network.{Network}
use Rattle.net_types.specs.World.{World}
use Rattle.topo_links.specs.declared.table.LinkTable.{LinkTable}
use Rattle.net_io.specs.Files.{Told, content}
use Rattle.net_load.specs.declared.numbering.Numbered.{Numbered}
use Rattle.net_load.specs.Numbering.{numbered_of}
use Rattle.incr_review.specs.declared.edits.EditKind.{EditKind}
use Rattle.edit_lines.specs.declared.reading.EditLine.{EditLine}
use Rattle.edit_lines.specs.declared.refusal.EditsFail.{EditsFail}
use Rattle.edit_lines.specs.declared.refusal.EditsFail.TheVariants as fail
use Rattle.edit_lines.specs.Built.{edits_limit}
use Rattle.edit_lines.specs.Reading.{edits_of}
use Rattle.edit_lines.specs.Refusals.{kind_text}
use Rattle.job_core.specs.declared.report.Report.{Report}
use Rattle.job_core.specs.declared.table.Wires.TheVariants as wires
use Rattle.job_core.specs.declared.stop.Stop.{Stop}
use Rattle.job_core.specs.declared.stop.Stop.TheVariants as stop
use Rattle.job_core.specs.Steps.{Then, GivesBytes, GivesTable}
use Rattle.job_inputs.specs.Folders.{GivesFolder}
use Rattle.edits_core.specs.Edits.{IsReview, network_after}
use Rattle.edits_core.specs.Words.{Paths, paths_of}

-- why edits of a file are refused, as they are read or as they are made
abbrev pub Refuses : {Y : Type 0} → List ℕ → Result Y EditsFail → Stop → Type 0
Refuses path read (stop.Refused p n k word) = (p ≡ path) × (kind : EditKind) × (k ≡ kind_text kind) × (read ≡ Err (fail.Refused kind n word))
Refuses path read stop.NoMemory = Unit {0}
Refuses path read _ = ⊥

-- ---- the edits of a file

-- the same bytes, where they are no longer than edits may be
abbrev pub AreShort : List ℕ → List ℕ → Result (List ℕ) Stop → Type 0
AreShort path bytes (Ok short) = (short ≡ bytes) × (length bytes ≤ edits_limit)
AreShort path bytes (Err (stop.TooLong p)) = (p ≡ path) × (edits_limit < length bytes)
AreShort path bytes (Err stop.NoMemory) = Unit {0}
AreShort path bytes (Err _) = ⊥

abbrev pub GivesShort : Told → List ℕ → Result (List ℕ) Stop → Type 0
GivesShort t path = Then (GivesBytes (λ bytes. bytes) path (content t path)) (AreShort path)

-- the edits that a text says on a network, or why it says none
abbrev pub SaysEdits : List ℕ → Network → List ℕ → Result (List EditLine) Stop → Type 0
SaysEdits path network bytes (Ok lines) = edits_of network bytes ≡ Ok lines
SaysEdits path network bytes (Err s) = Refuses path (edits_of network bytes) s

-- ---- the review

abbrev pub asked_network : List Loaded → LinkTable → Numbered
asked_network devices table = numbered_of devices [] table []

-- the network before all edits with its links
abbrev pub old_world : Numbered → World
old_world n = record { network = n.old; links = n.links }

-- the review of the edits, or the refusal of the first that is refused
abbrev pub IsEdited : List ℕ → Numbered → List EditLine → Result Report Stop → Type 0
IsEdited path n lines (Ok r) = IsReview n.names (old_world n) lines r
IsEdited path n lines (Err s) = Refuses path (network_after n.old lines) s

-- all lines are read before the first edit is made
abbrev pub EditsOn : List ℕ → Numbered → List ℕ → Result Report Stop → Type 0
EditsOn path n bytes = Then (SaysEdits path n.old bytes) (IsEdited path n)

abbrev pub EditsWith : Told → List Loaded → LinkTable → Paths → Result Report Stop → Type 0
EditsWith t devices table p = Then (GivesShort t p.edits) (EditsOn p.edits (asked_network devices table))

-- the table is judged with the network as both
abbrev pub EditsOver : Told → List Loaded → Paths → Result Report Stop → Type 0
EditsOver t devices p = Then (GivesTable t p.links wires.Both devices devices) (λ table. EditsWith t devices table p)

-- the network, its link table, the edits, and the review
abbrev pub Edits : Told → Paths → Result Report Stop → Type 0
Edits t p = Then (GivesFolder (λ devices. devices) t p.net) (λ devices. EditsOver t devices p)

abbrev pub Performs : Option Paths → Told → Result Report Stop → Type 0
Performs None t result = ⊥
Performs (Some p) t result = Edits t p result

-- what the words ask, done
abbrev pub Does : List (List ℕ) → Told → Result Report Stop → Type 0
Does words t result = Performs (paths_of words) t result
