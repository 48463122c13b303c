use Rattle.std.proofs.Common.{◌≡◌, map, filter, Global}
use Rattle.std.specs.Prelude.{string_bytes}
use Rattle.net_load.specs.Folder.{is_config_name}
use Rattle.net_load.proofs.folder.keep_config_names.Given as goal

abbrev pub invariant-loop-name : goal.invariant-loop-name
invariant-loop-name l = map (string_bytes {Z = Global}) l.found.items ≡ filter is_config_name (map (string_bytes {Z = Global}) l.yielded)
