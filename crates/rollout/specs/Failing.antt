-- The first question that a network doesn't meet, where there is one.
use Rattle.std.specs.Prelude.{ℕ, List, Option, None, Some}
use Rattle.net_types.specs.declared.question.Question.{Question}
use Rattle.net_types.specs.World.{World}
use Rattle.rollout.specs.declared.failing.Failure.{Failure}
use Rattle.rollout.specs.Steps.{AllHold, FirstFails}

abbrev pub IsFirstFailure : ℕ → List Question → World → Option Failure → Type 0
IsFirstFailure t questions w None = AllHold t questions w
IsFirstFailure t questions w (Some failure) = FirstFails t questions failure.question failure.header w
