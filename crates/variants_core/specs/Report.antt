-- What is written of variants: for each a line and its report, and last how many they are.
use Rattle.std.specs.Prelude.{ℕ, ◌≡◌, ◌||◌, Bool, true, false, List, [], ◌++◌, ◌∷◌, length, map, nat_lt, codes, decimal}
use Rattle.std.specs.List.{AllByRecursion, flat_map, list_any}
use Rattle.net_types.specs.declared.network.Names.{Names}
use Rattle.net_types.specs.declared.network.NetDevice.{NetDevice}
use Rattle.net_types.specs.declared.network.Section.{Section}
use Rattle.net_types.specs.World.{World}
use Rattle.net_load.specs.declared.numbering.Numbered.{Numbered}
use Rattle.net_load.specs.Numbering.{device_of}
use Rattle.net_variants.specs.Variants.{IsVariantReport}
use Rattle.report_text.specs.ReportText.{report_text, row_count}
use Rattle.job_core.specs.declared.report.Report.{Report}
use Rattle.variants_core.specs.declared.reading.Variant.{Variant}

-- packets enter with the greatest TTL, since no word names one (RFC 791, 3.1)
abbrev pub first_ttl : ℕ
first_ttl = 255

-- ---- what is compared

-- the network with its links
abbrev pub base_world : Numbered → World
base_world n = record { network = n.old; links = n.links }

-- the devices of a variant, over all names
abbrev pub devices_of : Numbered → Variant → List NetDevice
devices_of n v = map (device_of n.names.texts) v.changes

-- a variant, with the sections of a report
pub record Compared : Type 0 where
  pub of : Variant
  pub sections : List Section

-- they are those of the report on the network and the variant alone
abbrev pub IsCompared : Numbered → Compared → Type 0
IsCompared n c = IsVariantReport (base_world n) (devices_of n c.of) first_ttl c.sections

-- ---- what is written

-- `variant NAME affected M`
unfoldable pub variant_line : List ℕ → ℕ → List ℕ
variant_line name count = codes "variant " ++ name ++ codes " affected " ++ decimal count ++ codes "\n"

-- `variants N`
unfoldable pub count_line : ℕ → List ℕ
count_line count = codes "variants " ++ decimal count ++ codes "\n"

abbrev pub text_if : Bool → List ℕ → List ℕ
text_if true text = text
text_if false text = []

abbrev pub has_rows : Compared → Bool
has_rows c = nat_lt 0 (row_count c.sections)

-- the line of a variant and, where it has a row, its report
abbrev pub compared_text : Names → Compared → List ℕ
compared_text names c = variant_line c.of.name (row_count c.sections) ++ text_if (has_rows c) (report_text names c.sections)

-- these variants in their order, compared, with what is written of them, and whether one has a row
pub record AreCompared (n : Numbered) (variants : List Variant) (text : List ℕ) (affected : Bool) : Type 0 where
  pub all : List Compared
  pub every : map (λ c. c.of) all ≡ variants
  pub right : AllByRecursion (IsCompared n) all
  pub text_is : text ≡ flat_map (compared_text n.names) all
  pub affected_is : affected ≡ list_any has_rows all

-- that, and how many they are
pub record IsAnswer (n : Numbered) (variants : List Variant) (r : Report) : Type 0 where
  pub text : List ℕ
  pub compared : AreCompared n variants text r.affected
  pub written : r.text.items ≡ text ++ count_line (length variants)

-- behind what was written stands what is written of a variant of this name, with these devices
pub record IsWritten (w : World) (name : List ℕ) (devices : List NetDevice) (names : Names) (was now : Report) : Type 0 where
  pub sections : List Section
  pub report : IsVariantReport w devices first_ttl sections
  pub text : now.text.items ≡ (was.text.items ++ variant_line name (row_count sections)) ++ text_if (nat_lt 0 (row_count sections)) (report_text names sections)
  pub affected : now.affected ≡ was.affected || nat_lt 0 (row_count sections)
