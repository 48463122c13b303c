use Rattle.std.proofs.Common.{map, sym, ◌∙◌, arith}
use Rattle.std.specs.Str.{bytes_eq}
use Rattle.doctor_warnings.specs.Warnings.{file_named}
use Rattle.doctor_warnings.proofs.Steps.{found_here, found_later}
use Rattle.doctor_warnings.proofs.folder.file_named.Goals as goal

pub returns-then-eq : goal.returns-then-eq
returns-then-eq c =
    let same = rw (c.as_bytes.ensures, c.as_bytes-in-loop-file.ensures) at (sym c.eq.ensures ∙ c.if-eq.true) in
    found_here (λ f. bytes_eq c.args.name.now f.name) c.args.files.now c.loop-file.file-index c.file-item.result (file_named c.args.name.now (map (λ e. e.file) c.args.files.now)) (omega arith) c.file-item.is same c.loop-file.invariant

pub loop-file-preserved : goal.loop-file-preserved
loop-file-preserved c =
    let other = rw (c.as_bytes.ensures, c.as_bytes-in-loop-file.ensures) at (sym c.eq.ensures ∙ c.if-eq.false) in
    found_later (λ f. bytes_eq c.args.name.now f.name) c.args.files.now c.loop-file.file-index c.file-item.result (file_named c.args.name.now (map (λ e. e.file) c.args.files.now)) (omega arith) c.file-item.is other c.loop-file.invariant
