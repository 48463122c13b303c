use Rattle.std.proofs.Common.{ℕ, take}
use Rattle.std.specs.List.{AllZip}
use Rattle.net_types.specs.Questions.{IsAnswer}
use Rattle.net_types.specs.World.{World}
use Rattle.ask_query.specs.Slots.{AreRight}
use Rattle.ask_query.proofs.gathering.in_order.Given as goal

abbrev pub invariant-loop-i : goal.invariant-loop-i
invariant-loop-i l = (w : World) (t : ℕ) → AreRight w t l.questions l.known → AllZip (IsAnswer w t) (take l.i l.questions) l.answers.items
