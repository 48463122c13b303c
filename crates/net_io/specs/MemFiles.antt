-- The entries of files in memory.
use Rattle.std.specs.Prelude.{ℕ, List, map, string_bytes}
use Rattle.net_io.specs.declared.mem_files.MemFile.{MemFile}

-- each with its path and its bytes
abbrev pub entries : List MemFile → List (List ℕ × List ℕ)
entries files = map (λ file. (string_bytes file.path, file.bytes.items)) files

-- the paths
abbrev pub paths : List MemFile → List (List ℕ)
paths files = map (λ file. file.0) (entries files)
