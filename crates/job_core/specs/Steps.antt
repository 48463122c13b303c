-- The steps of a job, each over what the files tell: what it gives, or why the job stops there. A counted fault and want of
-- memory may stop it anywhere.
use Rattle.std.specs.Prelude.{◌≡◌, ◌⊎◌, ℕ, ◌<◌, ◌≤◌, List, Option, None, Some, Result, Ok, Err, IsSomeAnd, length}
use Rattle.net_types.specs.declared.config.Loaded.{Loaded}
use Rattle.net_io.specs.Limits.{file_limit}
use Rattle.net_io.specs.Files.{Told, content}
use Rattle.topo_links.specs.declared.table.LinkLine.{LinkLine}
use Rattle.topo_links.specs.declared.table.LinkTable.{LinkTable}
use Rattle.topo_links.specs.declared.table.LinkRefusal.{LinkRefusal}
use Rattle.topo_links.specs.declared.table.LinkFail.{LinkFail}
use Rattle.topo_links.specs.declared.table.LinkFail.TheVariants as links
use Rattle.topo_links.specs.Refusals.{refusal_text}
use Rattle.topo_links.specs.Table.{table_of}
use Rattle.topo_links.specs.Check.{table_fault, own_table_fault}
use Rattle.job_core.specs.declared.report.Report.{Report}
use Rattle.job_core.specs.declared.table.Wires.{Wires}
use Rattle.job_core.specs.declared.table.Wires.TheVariants as wires
use Rattle.job_core.specs.declared.stop.Stop.{Stop}
use Rattle.job_core.specs.declared.stop.Stop.TheVariants as stop

-- one step after the other: the first stops the job, or it gives a value and the next decides
abbrev pub Then : {A B : Type 0} → (Result A Stop → Type 0) → (A → Result B Stop → Type 0) → Result B Stop → Type 0
Then {A} first next result = ((s : Stop) × first (Err s) × (result ≡ Err s)) ⊎ ((a : A) × first (Ok a) × next a result)

-- what is written, or that there was no memory for it
abbrev pub OrNoMemory : (Report → Type 0) → Result Report Stop → Type 0
OrNoMemory Is (Ok r) = Is r
OrNoMemory Is (Err stop.NoMemory) = Unit {0}
OrNoMemory Is (Err _) = ⊥

-- ---- files

-- why there are no bytes of a file within the limit
abbrev pub UnreadFile : List ℕ → Option (List ℕ) → Stop → Type 0
UnreadFile path told (stop.NotFound p) = (p ≡ path) × (told ≡ None)
UnreadFile path told (stop.TooLong p) = (p ≡ path) × IsSomeAnd told (λ b. file_limit < length b)
UnreadFile path told (stop.CannotRead p) = p ≡ path
UnreadFile path told stop.NoMemory = Unit {0}
UnreadFile path told _ = ⊥

-- the bytes of a file within the limit; or why there are none
abbrev pub GivesBytes : {T : Type 0} → (T → List ℕ) → List ℕ → Option (List ℕ) → Result T Stop → Type 0
GivesBytes view path told (Ok bytes) = (told ≡ Some (view bytes)) × (length (view bytes) ≤ file_limit)
GivesBytes view path told (Err s) = UnreadFile path told s

-- ---- link tables

-- a text is refused as a link table by its own words
abbrev pub LinksFail : List ℕ → List ℕ → Stop → Type 0
LinksFail path bytes (stop.Refused p n k word) =
    (p ≡ path) × (kind : LinkRefusal) × (k ≡ refusal_text kind) × (table_of bytes ≡ Err (links.Refused kind n word))
LinksFail path bytes stop.NoMemory = Unit {0}
LinksFail path bytes _ = ⊥

-- the table that a text says, or why it says none
abbrev pub SaysLinks : List ℕ → List ℕ → Result LinkTable Stop → Type 0
SaysLinks path bytes (Ok table) = table_of bytes ≡ Ok table
SaysLinks path bytes (Err s) = LinksFail path bytes s

-- the table of a file by itself: the file's bytes, and what they say
abbrev pub GivesLinks : Told → List ℕ → Result LinkTable Stop → Type 0
GivesLinks t path = Then (GivesBytes (λ bytes. bytes) path (content t path)) (SaysLinks path)

-- what is wrong in a table for two networks: one that wires both is judged in both, one that wires the first alone is
-- judged in the first
abbrev pub fault_in : Wires → List Loaded → List Loaded → List LinkLine → Option LinkFail
fault_in wires.Both first second lines = table_fault first second lines
fault_in wires.First first second lines = own_table_fault first second lines

-- a table is refused for two networks
abbrev pub TableFails : List ℕ → Option LinkFail → Stop → Type 0
TableFails path fault (stop.Refused p n k word) =
    (p ≡ path) × (kind : LinkRefusal) × (k ≡ refusal_text kind) × (fault ≡ Some (links.Refused kind n word))
TableFails path fault stop.NoMemory = Unit {0}
TableFails path fault _ = ⊥

-- a table as it stands, or why it is refused
abbrev pub IsChecked : List ℕ → Wires → List Loaded → List Loaded → LinkTable → Result LinkTable Stop → Type 0
IsChecked path w first second table (Ok answer) = (answer ≡ table) × (fault_in w first second table.lines ≡ None)
IsChecked path w first second table (Err s) = TableFails path (fault_in w first second table.lines) s

-- the table of a file for these networks: the table by itself, and its check
abbrev pub GivesTable : Told → List ℕ → Wires → List Loaded → List Loaded → Result LinkTable Stop → Type 0
GivesTable t path w first second = Then (GivesLinks t path) (IsChecked path w first second)
