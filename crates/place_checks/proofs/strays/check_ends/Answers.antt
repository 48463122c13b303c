use Rattle.std.proofs.Common.{◌++◌, ap, ◌∙◌, arith}
use Rattle.place_checks.specs.Strays.{end_strays}
use Rattle.place_checks.specs.Sights.{pair_of}
use Rattle.place_checks.proofs.Firsts.{push_flat}
use Rattle.place_checks.proofs.strays.check_ends.Goals as goal

pub loop-end-preserved : goal.loop-end-preserved
loop-end-preserved c =
    let before = c.loop-end.found.items in
    let told = end_strays (pair_of c.args.nets) c.args.line.now in
    let end = c.end-item.result in
    c.in_ok-check_end.ensures ∙ ap (λ e. before ++ told e) c.place_at.ensures ∙ ap (λ l. l ++ told end) c.loop-end.invariant
    ∙ push_flat c.args.found.now.items c.as_slice-end-items.result.now c.loop-end.end-index end (omega arith) c.end-item.is told
