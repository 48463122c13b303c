use Rattle.std.proofs.Common.{◌++◌, [], ap, ◌∙◌, arith}
use Rattle.place_checks.specs.Strays.{line_strays}
use Rattle.place_checks.specs.Sights.{pair_of}
use Rattle.place_checks.proofs.Firsts.{push_flat}
use Rattle.place_checks.proofs.strays.stray_findings.Goals as goal

pub loop-line-preserved : goal.loop-line-preserved
loop-line-preserved c =
    let told = line_strays (pair_of c.args.nets) in
    let line = c.line-item.result in
    c.in_ok-check_lan.ensures ∙ ap (λ l. l ++ told line) c.loop-line.invariant
    ∙ push_flat [] c.args.lines.now c.loop-line.line-index line (omega arith) c.line-item.is told
