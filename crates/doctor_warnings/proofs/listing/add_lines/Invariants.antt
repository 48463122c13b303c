use Rattle.std.proofs.Common.{◌≡◌, ◌++◌, map, take}
use Rattle.std.specs.List.{flat_map}
use Rattle.doctor_warnings.specs.Listed.{file_lines}
use Rattle.doctor_warnings.proofs.listing.add_lines.Given as goal

abbrev pub invariant-loop-file : goal.invariant-loop-file
invariant-loop-file l = l.lines.items ≡ l.fn.lines.items ++ flat_map (file_lines l.folder) (map (λ e. e.file) (take l.file-index l.files))
