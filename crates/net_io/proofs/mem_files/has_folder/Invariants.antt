use Rattle.std.proofs.Common.{◌≡◌, drop, map, string_bytes}
use Rattle.std.specs.List.{list_any}
use Rattle.std.specs.Str.{bytes_eq}
use Rattle.net_io.proofs.mem_files.has_folder.Given as goal

-- none of the folders so far is it
abbrev pub invariant-loop-folder : goal.invariant-loop-folder
invariant-loop-folder l =
    list_any (bytes_eq l.path) (map string_bytes l.folders) ≡ list_any (bytes_eq l.path) (map string_bytes (drop l.folder-index l.folders))
