use Rattle.std.proofs.Common.{map, find, sym, ◌∙◌, arith}
use Rattle.doctor_warnings.specs.Warnings.{has_host}
use Rattle.doctor_warnings.proofs.Steps.{found_here, found_later}
use Rattle.doctor_warnings.proofs.hosts.first_with.Goals as goal

pub returns-then-has_host : goal.returns-then-has_host
returns-then-has_host c =
    let p = has_host c.args.host.now in
    found_here p c.args.files.now c.loop-file.file-index c.file-item.result (find p (map (λ e. e.file) c.args.files.now)) (omega arith) c.file-item.is (sym c.has_host.ensures ∙ c.if-has_host.true) c.loop-file.invariant

pub loop-file-preserved : goal.loop-file-preserved
loop-file-preserved c =
    let p = has_host c.args.host.now in
    found_later p c.args.files.now c.loop-file.file-index c.file-item.result (find p (map (λ e. e.file) c.args.files.now)) (omega arith) c.file-item.is (sym c.has_host.ensures ∙ c.if-has_host.false) c.loop-file.invariant
