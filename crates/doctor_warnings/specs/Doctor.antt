-- All that is told of one network or two: the warnings, the limits of the model that are met, and the lines that are passed over.
use Rattle.std.specs.Prelude.{◌≡◌, List, ◌++◌, filter, Option, Some, None}
use Rattle.net_types.specs.declared.config.Loaded.{Loaded}
use Rattle.doctor_warnings.specs.declared.limit.Limit.{Limit}
use Rattle.doctor_warnings.specs.declared.network.Notes.{Notes}
use Rattle.doctor_warnings.specs.declared.network.Subject.{Subject}
use Rattle.doctor_warnings.specs.declared.network.Tables.{Tables}
use Rattle.doctor_warnings.specs.declared.files.TextAt.{TextAt}
use Rattle.doctor_warnings.specs.declared.network.Texts.{Texts}
use Rattle.doctor_warnings.specs.declared.warning.Warning.{Warning}
use Rattle.doctor_warnings.specs.declared.wiring.Wiring.{Wiring}
use Rattle.doctor_warnings.specs.declared.wiring.Wiring.TheVariants as wiring
use Rattle.doctor_warnings.specs.Warnings.{folder_warnings, is_warning}
use Rattle.doctor_warnings.specs.Limits.{counted_limits}
use Rattle.doctor_warnings.specs.Listed.{listed}
use Rattle.doctor_warnings.specs.Tables.{both_of, devices_of, table_limits, table_warnings}

-- a table wires the only network, or both, where it is the only one; else each network has its own
abbrev pub tables_by : Wiring → Option (List Loaded) → Option (List Loaded) → TextAt → Option TextAt → List Warning
tables_by only old new links None = table_warnings only links.path (both_of old new) links.bytes
tables_by only old new links (Some new_links) =
    table_warnings wiring.Old links.path (both_of old new) links.bytes
    ++ table_warnings wiring.New new_links.path (both_of new old) new_links.bytes

abbrev pub tables_warnings : Wiring → Option (List Loaded) → Option (List Loaded) → Tables → List Warning
tables_warnings only old new t = tables_by only old new t.links t.new_links

-- a network alone: nothing is beside it, and it stands for both in the table
abbrev pub warnings_alone : Texts → Tables → List Warning
warnings_alone net tables = folder_warnings net None ++ tables_warnings wiring.Alone (devices_of net.files) (devices_of net.files) tables

-- the old folder's files by their names, then the new folder's, and then the tables
abbrev pub warnings_of_both : Texts → Texts → Tables → List Warning
warnings_of_both old new tables =
    (folder_warnings old (Some new.files) ++ folder_warnings new (Some old.files)) ++ tables_warnings wiring.Both (devices_of old.files) (devices_of new.files) tables

abbrev pub warnings_by : Texts → Option Texts → Tables → List Warning
warnings_by old None tables = warnings_alone old tables
warnings_by old (Some new) tables = warnings_of_both old new tables

abbrev pub found : Subject → List Warning
found s = warnings_by s.old s.new s.tables

-- *the warnings*: of what is found all but the lines on which the way of no packet depends, which are only counted
abbrev pub warnings : Subject → List Warning
warnings s = filter is_warning (found s)

-- ---- the limits of the model that the networks meet

abbrev pub limits_by : Wiring → Option (List Loaded) → Option (List Loaded) → TextAt → Option TextAt → List Limit
limits_by only old new links None = table_limits only links.path (both_of old new) links.bytes
limits_by only old new links (Some new_links) =
    table_limits wiring.Old links.path (both_of old new) links.bytes
    ++ table_limits wiring.New new_links.path (both_of new old) new_links.bytes

abbrev pub tables_limits : Wiring → Option (List Loaded) → Option (List Loaded) → Tables → List Limit
tables_limits only old new t = limits_by only old new t.links t.new_links

abbrev pub wired_limits : Texts → Option Texts → Tables → List Limit
wired_limits old None tables = tables_limits wiring.Alone (devices_of old.files) (devices_of old.files) tables
wired_limits old (Some new) tables = tables_limits wiring.Both (devices_of old.files) (devices_of new.files) tables

-- *the limits*: by what is refused and what is only counted, and then by the links
abbrev pub limits : Subject → List Limit
limits s = counted_limits (found s) ++ wired_limits s.old s.new s.tables

-- everything that is told of the networks
pub record AreNotes (s : Subject) (n : Notes) : Type 0 where
  pub warnings : n.warnings ≡ warnings s
  pub limits : n.limits ≡ limits s
  pub lines : n.lines ≡ listed s
