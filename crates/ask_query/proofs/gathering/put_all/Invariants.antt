use Rattle.std.proofs.Common.{◌≡◌, ℕ, List, All, length, take}
use Rattle.net_types.specs.declared.question.Question.{Question}
use Rattle.net_types.specs.World.{World}
use Rattle.ask_query.specs.Slots.{AnswerNumbers, AreRight, IsKnown}
use Rattle.ask_query.proofs.gathering.put_all.Given as goal

abbrev pub invariant-loop-i : goal.invariant-loop-i
invariant-loop-i l = record {
  count : length l.known.items ≡ length l.fn.known.items;
  right : (w : World) (t : ℕ) (questions : List Question) → AnswerNumbers w t questions l.numbers l.answers → AreRight w t questions l.fn.known.items → AreRight w t questions l.known.items;
  kept : (n : ℕ) → IsKnown l.fn.known.items n → IsKnown l.known.items n;
  put : All (IsKnown l.known.items) (take l.i l.numbers);
}
