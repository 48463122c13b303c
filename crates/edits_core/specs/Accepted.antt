-- Edits of which nothing is refused, too long or absent.
use Rattle.std.specs.Prelude.{◌≡◌, ◌≤◌, ℕ, List, Option, None, Some, Ok, length}
use Rattle.net_types.specs.declared.network.Network.{Network}
use Rattle.net_io.specs.Files.{Told}
use Rattle.net_load.specs.declared.numbering.Numbered.{Numbered}
use Rattle.edit_lines.specs.declared.reading.EditLine.{EditLine}
use Rattle.edit_lines.specs.Built.{edits_limit}
use Rattle.edit_lines.specs.Reading.{edits_of}
use Rattle.job_core.specs.declared.table.Wires.TheVariants as wires
use Rattle.job_core.specs.Accepted.{AcceptedFile, AcceptedTable}
use Rattle.job_inputs.specs.Folders.{AcceptedFolder}
use Rattle.edits_core.specs.Edits.{network_after}
use Rattle.edits_core.specs.Job.{asked_network}
use Rattle.edits_core.specs.Words.{Paths, paths_of}

-- the bytes say edits, each of which can be made behind those before it
pub record AcceptedEdits (n : Numbered) (bytes : List ℕ) : Type 0 where
  pub within : length bytes ≤ edits_limit
  pub lines : List EditLine
  pub read : edits_of n.old bytes ≡ Ok lines
  pub after : Network
  pub made : network_after n.old lines ≡ Ok after

-- the network is loaded, the link table is accepted with it as both networks, and so are the edits
pub record AcceptedReview (t : Told) (p : Paths) : Type 0 where
  pub folder : AcceptedFolder t p.net
  pub table : AcceptedTable t p.links wires.Both folder.devices folder.devices
  pub file : AcceptedFile t p.edits
  pub edits : AcceptedEdits (asked_network folder.devices table.links.table) file.bytes

abbrev pub AcceptedPaths : Option Paths → Told → Type 0
AcceptedPaths None t = ⊥
AcceptedPaths (Some p) t = AcceptedReview t p

abbrev pub IsAccepted : List (List ℕ) → Told → Type 0
IsAccepted words t = AcceptedPaths (paths_of words) t
