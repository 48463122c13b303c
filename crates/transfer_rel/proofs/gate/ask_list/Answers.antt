use Rattle.std.proofs.Common.{sym, subst}
use Rattle.transfer_rel.specs.Stages.{OfGate}
use Rattle.transfer_rel.proofs.gate.ask_list.Goals as goal

pub returns-in-All : goal.returns-in-All
returns-in-All c = λ h v i. subst (λ o. OfGate o c.gate_of.result) (sym (c.in-All.ensures.answer h v i)) c.gate_of.ensures
