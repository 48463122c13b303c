use Rattle.std.proofs.Common.{ap, ◌++◌, ◌∙◌, arith}
use Rattle.std.specs.Prelude.{option_to_list}
use Rattle.doctor_warnings.specs.Limits.{limit_of}
use Rattle.doctor_warnings.proofs.Items.{push_option}
use Rattle.doctor_warnings.proofs.limit.counted_limits.Goals as goal

pub loop-warning-preserved : goal.loop-warning-preserved
loop-warning-preserved c =
    let ws = c.args.warnings.now in
    let w = c.warning-item.result in
    c.in_ok-add_limit.ensures ∙ ap (λ l. l ++ option_to_list (limit_of w)) c.loop-warning.invariant
    ∙ push_option limit_of ws c.loop-warning.warning-index w (omega arith) c.warning-item.is
