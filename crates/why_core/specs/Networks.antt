-- Two networks that one link table wires: what is read, and why there are none.
use Rattle.std.specs.Prelude.{◌≡◌, ℕ, ◌≤◌, List, Result, Ok, Err, length}
use Rattle.net_types.specs.declared.config.Loaded.{Loaded}
use Rattle.net_io.specs.Files.{Told}
use Rattle.net_io.specs.Limits.{file_limit}
use Rattle.topo_links.specs.declared.table.LinkTable.{LinkTable}
use Rattle.topo_links.specs.Table.{table_names}
use Rattle.net_load.specs.Limits.{folder_limit}
use Rattle.net_load.specs.Numbering.{folder_names}
use Rattle.job_core.specs.declared.stop.Stop.{Stop}
use Rattle.job_core.specs.declared.table.Wires.TheVariants as wires
use Rattle.job_core.specs.Accepted.{AcceptedTable}
use Rattle.job_core.specs.Steps.{Then, GivesTable}
use Rattle.job_inputs.specs.Folders.{AcceptedFolder, GivesFolder}
use Rattle.why_core.specs.declared.networks.Networks.{Networks}

-- these devices, and this table
abbrev pub AreNetworks : List Loaded → List Loaded → LinkTable → Result Networks Stop → Type 0
AreNetworks old new table (Ok n) = (n.old.items ≡ old) × (n.new.items ≡ new) × (n.links ≡ table)
AreNetworks old new table (Err s) = ⊥

-- the old folder, then the new one, then the link table, which is judged in both
abbrev pub GivesLinked : Told → List ℕ → List Loaded → List Loaded → Result Networks Stop → Type 0
GivesLinked t links old new = Then (GivesTable t links wires.Both old new) (λ table. AreNetworks old new table)

abbrev pub GivesBoth : Told → List ℕ → List ℕ → List Loaded → Result Networks Stop → Type 0
GivesBoth t new links old = Then (GivesFolder (λ devices. devices) t new) (λ devices. GivesLinked t links old devices)

abbrev pub GivesNetworks : Told → List ℕ → List ℕ → List ℕ → Result Networks Stop → Type 0
GivesNetworks t old new links = Then (GivesFolder (λ devices. devices) t old) (λ devices. GivesBoth t new links devices)

-- the names in them are no more than bytes may be in their files
pub record AreFew (n : Networks) : Type 0 where
  pub old : length (folder_names n.old.items) ≤ folder_limit
  pub new : length (folder_names n.new.items) ≤ folder_limit
  pub links : length (table_names n.links) ≤ file_limit

-- both networks are loaded, and the link table is accepted for them
pub record AcceptedNetworks (t : Told) (old new links : List ℕ) : Type 0 where
  pub before : AcceptedFolder t old
  pub after : AcceptedFolder t new
  pub table : AcceptedTable t links wires.Both before.devices after.devices
