use Rattle.std.proofs.Common.{◌≡◌, ◌++◌, [], map, take, drop}
use Rattle.doctor_warnings.specs.Warnings.{taken_behind}
use Rattle.doctor_warnings.proofs.hosts.add_taken.Given as goal

abbrev pub invariant-loop-place : goal.invariant-loop-place
invariant-loop-place l = l.warnings.items ++ taken_behind l.folder (map (λ e. e.file) (take l.place l.files)) (map (λ e. e.file) (drop l.place l.files)) ≡ l.fn.warnings.items ++ taken_behind l.folder [] (map (λ e. e.file) l.files)
