use Rattle.std.proofs.Common.{◌≡◌, drop}
use Rattle.std.specs.Prelude.{find}
use Rattle.std.specs.Str.{bytes_eq}
use Rattle.net_io.specs.MemFiles.{entries}
use Rattle.net_io.proofs.mem_files.bytes_at.Given as goal

-- none of the files so far is at the path
abbrev pub invariant-loop-file : goal.invariant-loop-file
invariant-loop-file l =
    find (λ f. bytes_eq f.0 l.path) (entries l.files) ≡ find (λ f. bytes_eq f.0 l.path) (entries (drop l.file-index l.files))
