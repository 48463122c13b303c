-- The access lists of a folder, with the lines that write their entries.
use Rattle.std.specs.Prelude.{ℕ, ◌-◌, Bool, true, false, not, ◌&&◌, ◌==◌, List, [], Option, Some, None, is_none, length, slice_get, map, filter_map, unwrap_or, if◌then◌else◌}
use Rattle.std.specs.List.{flat_map}
use Rattle.std.specs.Str.{bytes_eq}
use Rattle.net_io.specs.Files.{Told, content, path_in}
use Rattle.net_text.specs.Lines.{piece}
use Rattle.net_types.specs.declared.config.AccessList.{AccessList}
use Rattle.net_types.specs.declared.config.Entry.{Entry}
use Rattle.net_types.specs.declared.config.FlagTest.{FlagTest}
use Rattle.net_types.specs.declared.config.FlagTest.TheVariants as flag
use Rattle.net_types.specs.declared.config.IcmpTest.{IcmpTest}
use Rattle.net_types.specs.declared.config.IcmpTest.TheVariants as icmp
use Rattle.net_types.specs.declared.config.Loaded.{Loaded}
use Rattle.net_types.specs.declared.config.PortTest.{PortTest}
use Rattle.net_types.specs.declared.config.PortTest.TheVariants as port
use Rattle.ios_config.specs.declared.entries.EntryLine.{EntryLine}
use Rattle.ios_config.specs.EntryLines.{entry_lines}
use Rattle.audit_view.specs.declared.lists.FolderList.{FolderList}
use Rattle.audit_view.specs.declared.lists.ListEntry.{ListEntry}

-- ---- closing denials

abbrev pub is_any_port : PortTest → Bool
is_any_port port.Any = true
is_any_port _ = false

abbrev pub is_any_message : IcmpTest → Bool
is_any_message icmp.Any = true
is_any_message _ = false

abbrev pub is_any_flag : FlagTest → Bool
is_any_flag flag.Any = true
is_any_flag _ = false

-- the entry denies every packet: deny any, or deny ip any any
abbrev pub denies_all : Entry → Bool
denies_all e =
    not e.permit && is_none e.proto && e.src.wild == 4294967295 && e.dst.wild == 4294967295
    && is_any_port e.sport && is_any_port e.dport && is_any_message e.icmp && is_any_flag e.flags

-- the sequence number of the last entry, where that denies every packet
abbrev pub closing_by : Option Entry → Option ℕ
closing_by None = None
closing_by (Some e) = if denies_all e then Some e.sequence else None

abbrev pub closing_of : List Entry → Option ℕ
closing_of es = closing_by (slice_get es (length es - 1))

-- ---- entries

-- an entry, as its line writes it
abbrev pub written : List ℕ → EntryLine → ListEntry
written bytes l = record { sequence = l.sequence; line = l.line; text = piece bytes (record { start = l.start; end = l.end }) }

-- the same, where it is one of the list of this name
abbrev pub entry_in : List ℕ → List ℕ → EntryLine → Option ListEntry
entry_in bytes name l = if bytes_eq l.list name then Some (written bytes l) else None

-- ---- lists

-- a list of a file with these bytes, in which these lines write entries
abbrev pub folder_list : List ℕ → List ℕ → List EntryLine → AccessList → FolderList
folder_list file bytes lines l = record { file = file; name = l.name; closing = closing_of l.entries; entries = filter_map (entry_in bytes l.name) lines }

-- the lists of a configuration's file, which has these bytes
abbrev pub lists_in : List ℕ → Loaded → List FolderList
lists_in bytes d = map (folder_list d.file bytes (entry_lines bytes)) d.config.lists

-- the bytes of a configuration's file
abbrev pub bytes_of : Told → List ℕ → Loaded → List ℕ
bytes_of t net d = unwrap_or (content t (path_in net d.file)) []

-- the lists of a folder, in the order of the files and of each file's lists
abbrev pub lists_of : Told → List ℕ → List Loaded → List FolderList
lists_of t net devices = flat_map (λ d. lists_in (bytes_of t net d) d) devices
