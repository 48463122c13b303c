-- Variants of which nothing is refused, too long, too many or absent.
use Rattle.std.specs.Prelude.{◌≡◌, ℕ, List, Option, None, Some, Ok}
use Rattle.net_io.specs.Files.{Told}
use Rattle.variant_lines.specs.declared.reading.VariantLine.{VariantLine}
use Rattle.variant_lines.specs.Reading.{variants_of}
use Rattle.job_core.specs.declared.table.Wires.TheVariants as wires
use Rattle.job_core.specs.Accepted.{AcceptedFile, AcceptedTable}
use Rattle.job_inputs.specs.Folders.{AcceptedFolder}
use Rattle.window_core.specs.declared.base.Base.{Base}
use Rattle.variants_core.specs.declared.reading.Variant.{Variant}
use Rattle.variants_core.specs.Taking.{TakesAll, nothing}
use Rattle.variants_core.specs.Words.{Paths, paths_of}

-- the network is loaded, and the link table is accepted with it as both networks
pub record AcceptedBase (t : Told) (p : Paths) : Type 0 where
  pub folder : AcceptedFolder t p.net
  pub table : AcceptedTable t p.links wires.Both folder.devices folder.devices

abbrev pub base_of : {t : Told} → {p : Paths} → AcceptedBase t p → Base
base_of a = record { devices = a.folder.devices; table = a.table.links.table }

-- the file is there, within the limit, and says variants
pub record AcceptedLines (t : Told) (path : List ℕ) : Type 0 where
  pub file : AcceptedFile t path
  pub lines : List VariantLine
  pub read : variants_of file.bytes ≡ Ok lines

-- and each change of them is one
pub record AcceptedVariants (t : Told) (p : Paths) : Type 0 where
  pub base : AcceptedBase t p
  pub lines : AcceptedLines t p.variants
  pub variants : List Variant
  pub taken : TakesAll t p.variants (base_of base) nothing lines.lines (Ok variants)

abbrev pub AcceptedPaths : Option Paths → Told → Type 0
AcceptedPaths None t = ⊥
AcceptedPaths (Some p) t = AcceptedVariants t p

abbrev pub IsAccepted : List (List ℕ) → Told → Type 0
IsAccepted words t = AcceptedPaths (paths_of words) t
