use Rattle.std.proofs.Common.{◌≡◌, map}
use Rattle.doctor_warnings.proofs.examined.examine_all.Given as goal

abbrev pub invariant-loop-file : goal.invariant-loop-file
invariant-loop-file l = map (λ e. e.file) l.examined.items ≡ l.yielded
