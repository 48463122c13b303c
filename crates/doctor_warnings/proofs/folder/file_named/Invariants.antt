use Rattle.std.proofs.Common.{◌≡◌, map, drop}
use Rattle.doctor_warnings.specs.Warnings.{file_named}
use Rattle.doctor_warnings.proofs.folder.file_named.Given as goal

abbrev pub invariant-loop-file : goal.invariant-loop-file
invariant-loop-file l = file_named l.name (map (λ e. e.file) (drop l.file-index l.files)) ≡ file_named l.name (map (λ e. e.file) l.files)
