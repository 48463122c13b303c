use Rattle.std.proofs.Common.{rules}
use Rattle.std.proofs.lemmas.Result.{IfOk-weaker}
use Rattle.incr_review.proofs.changed.with_alone.Goals as goal

pub without-requires-clause-second : goal.without-requires-clause-second
without-requires-clause-second c = (c.requires.others c.in-Some.other c.in-Some.ensures.among).below

pub returns-in_default-clause-below : goal.returns-in_default-clause-below
returns-in_default-clause-below c = IfOk-weaker c.either.result _ _ (λ x made. made.below) c.either.ensures.set

pub returns-in_default-clause-wider : goal.returns-in_default-clause-wider
returns-in_default-clause-wider c = IfOk-weaker c.either.result _ _ (λ x made. search rules) c.either.ensures.set

pub returns-in_default-clause-other : goal.returns-in_default-clause-other
returns-in_default-clause-other c = IfOk-weaker c.either.result _ _ (λ x made. search rules) c.either.ensures.set

pub returns-clause-below : goal.returns-clause-below
returns-clause-below c = IfOk-weaker c.either-2.result _ _ (λ x made. made.below) c.either-2.ensures.set

pub returns-clause-wider : goal.returns-clause-wider
returns-clause-wider c = IfOk-weaker c.either-2.result _ _ (λ x made. search rules) c.either-2.ensures.set

pub returns-clause-other : goal.returns-clause-other
returns-clause-other c = IfOk-weaker c.either-2.result _ _ (λ x made. search rules) c.either-2.ensures.set
