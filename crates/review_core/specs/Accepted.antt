-- Jobs of which nothing is refused, too long or absent.
use Rattle.std.specs.Prelude.{◌≡◌, ℕ, List, Option, None, Some, Ok}
use Rattle.net_types.specs.declared.config.Loaded.{Loaded}
use Rattle.net_io.specs.Files.{Told}
use Rattle.topo_links.specs.declared.table.LinkTable.{LinkTable}
use Rattle.ask_query.specs.Reading.{Said, questions_of}
use Rattle.job_core.specs.declared.table.Wires.TheVariants as wires
use Rattle.job_core.specs.Accepted.{AcceptedFile, AcceptedTable}
use Rattle.job_inputs.specs.Folders.{AcceptedFolder}
use Rattle.review_args.specs.declared.request.Asking.{Asking}
use Rattle.review_args.specs.declared.request.Comparison.{Comparison}
use Rattle.review_args.specs.declared.request.Tracing.{Tracing}
use Rattle.review_args.specs.declared.request.Job.{Job}
use Rattle.review_args.specs.declared.request.Job.TheVariants as job
use Rattle.review_args.specs.Requests.{job_of}
use Rattle.review_core.specs.Job.{asked_network}

-- each link table that the words name is accepted for the networks that it wires
abbrev pub AcceptedTables : Told → List Loaded → List Loaded → List ℕ → Option (List ℕ) → Type 0
AcceptedTables t old new links None = AcceptedTable t links wires.Both old new
AcceptedTables t old new links (Some new_links) =
    AcceptedTable t links wires.First old new × AcceptedTable t new_links wires.First new old

-- both networks are loaded, and their tables are accepted
pub record AcceptedComparison (t : Told) (c : Comparison) : Type 0 where
  pub before : AcceptedFolder t c.old
  pub after : AcceptedFolder t c.new
  pub tables : AcceptedTables t before.devices after.devices c.links c.new_links

-- the file is there, within the limit, and asks questions on the network
pub record AcceptedQuestions (t : Told) (path : List ℕ) (devices : List Loaded) (table : LinkTable) : Type 0 where
  pub file : AcceptedFile t path
  pub questions : List Said
  pub read : questions_of (asked_network devices table).old file.bytes ≡ Ok questions

-- the network is loaded, the link table is accepted with it as both networks, and so are the questions on it
pub record AcceptedAsking (t : Told) (a : Asking) : Type 0 where
  pub folder : AcceptedFolder t a.net
  pub table : AcceptedTable t a.links wires.Both folder.devices folder.devices
  pub file : AcceptedQuestions t a.questions folder.devices table.links.table

-- the network is loaded, and the link table is accepted with it as both networks
pub record AcceptedTrace (t : Told) (asked : Tracing) : Type 0 where
  pub folder : AcceptedFolder t asked.net
  pub table : AcceptedTable t asked.links wires.Both folder.devices folder.devices

abbrev pub AcceptedJob : Option Job → Told → Type 0
AcceptedJob None t = ⊥
AcceptedJob (Some (job.Compare asked)) t = AcceptedComparison t asked
AcceptedJob (Some (job.Ask asked)) t = AcceptedAsking t asked
AcceptedJob (Some (job.Trace asked)) t = AcceptedTrace t asked
AcceptedJob (Some (job.Read net)) t = AcceptedFolder t net
AcceptedJob (Some (job.Gen number size)) t = Unit {0}

-- the words are within the usage; the folders are loaded; the link tables and the questions are accepted
abbrev pub IsAccepted : List (List ℕ) → Told → Type 0
IsAccepted words t = AcceptedJob (job_of words) t
