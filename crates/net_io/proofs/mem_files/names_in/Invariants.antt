use Rattle.std.proofs.Common.{◌≡◌, take, map, string_bytes}
use Rattle.std.specs.Prelude.{filter_map}
use Rattle.net_io.specs.Names.{name_in}
use Rattle.net_io.specs.MemFiles.{paths}
use Rattle.net_io.proofs.mem_files.names_in.Given as goal

-- the names of the files so far
abbrev pub invariant-loop-file : goal.invariant-loop-file
invariant-loop-file l =
    map string_bytes l.names.items ≡ filter_map (name_in l.folder) (paths (take l.file-index l.files))
