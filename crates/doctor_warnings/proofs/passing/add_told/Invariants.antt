use Rattle.std.proofs.Common.{[], ℕ, List}
use Rattle.std.specs.Prelude.{Option}
use Rattle.doctor_warnings.specs.Beside.{IsBeside, IsGone}
use Rattle.doctor_warnings.proofs.passing.add_told.Given as goal

abbrev pub invariant-loop-line : goal.invariant-loop-line
invariant-loop-line l = (ks : Option (List (List ℕ))) → IsBeside ks [] l.initial.beside → IsGone ks l.path l.bytes l.told l.line-index l.initial.warnings.items l.warnings.items l.beside
