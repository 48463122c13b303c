use Rattle.std.proofs.Common.{◌≡◌, ◌++◌, map, take}
use Rattle.std.specs.List.{flat_map}
use Rattle.net_io.specs.Files.{path_in}
use Rattle.doctor_warnings.specs.Sides.{files_beside}
use Rattle.doctor_warnings.specs.Warnings.{file_warnings, is_alone, other_keys}
use Rattle.doctor_warnings.proofs.folder.add_files.Given as goal

abbrev pub invariant-loop-file : goal.invariant-loop-file
invariant-loop-file l =
    l.warnings.items ≡ l.fn.warnings.items
    ++ flat_map (λ f. file_warnings (is_alone (files_beside l.fn.other) f.name) (other_keys (files_beside l.fn.other) f.name) (path_in l.folder.path f.name) f.bytes) (map (λ e. e.file) (take l.file-index l.folder.files.items))
