use Rattle.std.proofs.Common.{arith}
use Rattle.std.proofs.lemmas.Grind.{common_steps, elements}
use Rattle.canon_rows.proofs.halves.joined.Goals as goal

pub loop-q-preserved : goal.loop-q-preserved
loop-q-preserved c = grind (arith, common_steps)

pub loop-p-preserved : goal.loop-p-preserved
loop-p-preserved c = grind (arith, common_steps)

pub returns-clause-rows : goal.returns-clause-rows
returns-clause-rows c = grind (arith, common_steps)

pub loop-q-init : goal.loop-q-init
loop-q-init c = grind (arith, common_steps)

pub returns-in_err-push-2-clause-within : goal.returns-in_err-push-2-clause-within
returns-in_err-push-2-clause-within c = grind (arith, elements)

pub returns-in_err-push-2-clause-rows : goal.returns-in_err-push-2-clause-rows
returns-in_err-push-2-clause-rows c = grind (arith, elements)

pub returns-in_err-push-clause-rows : goal.returns-in_err-push-clause-rows
returns-in_err-push-clause-rows c = grind (arith, elements)
