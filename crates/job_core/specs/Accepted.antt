-- Files of which nothing is refused, too long or absent.
use Rattle.std.specs.Prelude.{◌≡◌, ℕ, ◌≤◌, List, None, Some, Ok, length}
use Rattle.net_types.specs.declared.config.Loaded.{Loaded}
use Rattle.net_io.specs.Limits.{file_limit}
use Rattle.net_io.specs.Files.{Told, content}
use Rattle.topo_links.specs.declared.table.LinkTable.{LinkTable}
use Rattle.topo_links.specs.Table.{table_of}
use Rattle.job_core.specs.declared.table.Wires.{Wires}
use Rattle.job_core.specs.declared.stop.Stop.{Stop}
use Rattle.job_core.specs.declared.stop.Stop.TheVariants as stop
use Rattle.job_core.specs.Steps.{fault_in}

-- the file is there, within the limit
pub record AcceptedFile (t : Told) (path : List ℕ) : Type 0 where
  pub bytes : List ℕ
  pub there : content t path ≡ Some bytes
  pub within : length bytes ≤ file_limit

-- and a link table
pub record AcceptedLinks (t : Told) (path : List ℕ) : Type 0 where
  pub file : AcceptedFile t path
  pub table : LinkTable
  pub read : table_of file.bytes ≡ Ok table

-- and one for these networks
pub record AcceptedTable (t : Told) (path : List ℕ) (w : Wires) (first second : List Loaded) : Type 0 where
  pub links : AcceptedLinks t path
  pub fits : fault_in w first second links.table.lines ≡ None

-- what may stop a job all of whose files are accepted: a file or a folder that can't be read, and want of memory
abbrev pub MayAlwaysStop : Stop → Type 0
MayAlwaysStop (stop.CannotRead path) = Unit {0}
MayAlwaysStop stop.NoMemory = Unit {0}
MayAlwaysStop _ = ⊥
