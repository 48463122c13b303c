use Rattle.std.proofs.Common.{◌≡◌, List, Ok, map, string_bytes}
use Rattle.std.specs.Fs.{dir_entry_name}
use Rattle.net_io.proofs.entry_names.names_of.Given as goal

-- the entries so far came without an error, and the names are theirs
abbrev pub invariant-loop-entry : goal.invariant-loop-entry
invariant-loop-entry g l = (entries : List _) × (l.yielded ≡ map Ok entries) × (map string_bytes l.names.items ≡ map dir_entry_name entries)
