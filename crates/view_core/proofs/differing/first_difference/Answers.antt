use Rattle.std.proofs.Common.{◌≡◌, ◌+◌, arith}
use Rattle.view_core.proofs.SameLines.{same_from, same_ended, same_ended_other}
use Rattle.view_core.proofs.differing.first_difference.Goals as goal
use Rattle.view_core.proofs.differing.first_difference.Goals.{then-loop-at-test+else-at-b, else-loop-at-test}

pub returns : goal.returns
returns c =
    let a = c.args.a.now in
    let b = c.args.b.now in
    let at = c.loop-at.at in
    let same : at + same_from a b at ≡ same_from a b 0 = c.loop-at.invariant.same in
    let ended : same_from a b at ≡ 0 =
    elim c.loop-at-test.branch [
      | then-loop-at-test+else-at-b w ↦ same_ended_other a b at (omega arith)
      | else-loop-at-test w ↦ same_ended a b at (omega arith)
    ] in
    omega (arith, same, ended)
