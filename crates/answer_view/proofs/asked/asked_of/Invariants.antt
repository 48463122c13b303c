use Rattle.std.proofs.Common.{◌≡◌, take, flat_map}
use Rattle.answer_view.specs.Asked.{asked_at}
use Rattle.answer_view.proofs.asked.asked_of.Given as goal

abbrev pub invariant-loop-line : goal.invariant-loop-line
invariant-loop-line l = l.asked.items ≡ flat_map (asked_at l.bytes) (take l.line-index l.lines)
