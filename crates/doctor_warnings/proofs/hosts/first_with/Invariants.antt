use Rattle.std.proofs.Common.{◌≡◌, find, map, drop}
use Rattle.doctor_warnings.specs.Warnings.{has_host}
use Rattle.doctor_warnings.proofs.hosts.first_with.Given as goal

abbrev pub invariant-loop-file : goal.invariant-loop-file
invariant-loop-file l = find (has_host l.host) (map (λ e. e.file) (drop l.file-index l.files)) ≡ find (has_host l.host) (map (λ e. e.file) l.files)
