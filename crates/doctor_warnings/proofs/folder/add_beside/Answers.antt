use Rattle.std.proofs.Common.{[], ℕ, List, ap, subst}
use Rattle.std.specs.Prelude.{Option, option_map}
use Rattle.doctor_warnings.specs.Beside.{IsBeside}
use Rattle.doctor_warnings.specs.Sides.{files_beside}
use Rattle.doctor_warnings.specs.Told.{keys}
use Rattle.doctor_warnings.specs.Warnings.{other_keys}
use Rattle.doctor_warnings.proofs.folder.add_beside.Goals as goal

pub returns : goal.returns
returns c =
    let others = other_keys (files_beside c.args.other) c.args.file.now.file.name in
    c.add_passed.ensures others (subst (λ (ks : Option (List (List ℕ))). IsBeside ks [] c.in_ok-beside.beside) (ap (option_map (λ f. keys f.bytes)) c.file_beside.ensures) c.in_ok-beside.ensures)
