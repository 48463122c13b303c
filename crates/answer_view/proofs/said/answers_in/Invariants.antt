use Rattle.std.proofs.Common.{◌≡◌, take, flat_map, map}
use Rattle.std.specs.List.{AllByRecursion}
use Rattle.answer_view.specs.AnswerText.{HasPacket}
use Rattle.answer_view.specs.Said.{said_at}
use Rattle.answer_view.proofs.said.answers_in.Given as goal

abbrev pub invariant-loop-line : goal.invariant-loop-line
invariant-loop-line l = record {
  value : l.answers.items ≡ flat_map said_at (map (λ line. line.now) (take l.line-index l.lines));
  fit : AllByRecursion HasPacket l.answers.items;
}
