use Rattle.std.proofs.Common.{inl, inr, refl}
use Rattle.why_core.proofs.why.explain_bytes.Goals as goal

pub returns-in-Ok-clause-explains : goal.returns-in-Ok-clause-explains
returns-in-Ok-clause-explains c = inr (c.in-Ok.reported, c.in-Ok.ensures.report, c.judge.ensures.judges)

pub returns-in-Err-clause-explains : goal.returns-in-Err-clause-explains
returns-in-Err-clause-explains c = inl (c.in-Err.stop, c.in-Err.ensures.report, refl)
