use Rattle.std.proofs.Common.{ap, ◌∙◌}
use Rattle.place_checks.proofs.Firsts.{on_ok}
use Rattle.doctor_warnings.specs.Warnings.{reason_by}
use Rattle.doctor_warnings.proofs.Beside.{told_for}
use Rattle.doctor_warnings.proofs.passing.add_line.Goals as goal

pub returns : goal.returns
returns c = λ ks before short h.
    on_ok c.add_reason.result (λ e.
    told_for ks before c.args.path.now c.args.bytes.now c.args.line c.in_ok-only.only c.is_only_here.new.beside c.reason_by.result c.args.warnings.now.items c.add_reason.new.warnings.items
    (c.in_ok-only.ensures ks before short h) (c.reason_by.ensures ∙ ap (λ l. reason_by l c.in_ok-only.only) c.look_of.ensures) e) c.add_reason.ensures
