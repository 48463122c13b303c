use Rattle.std.proofs.Common.{◌≡◌, ◌++◌, ℕ, All, length, map}
use Rattle.std.specs.Prelude.{Contains}
use Rattle.net_view.specs.Borrowed.{world_of}
use Rattle.ask_query.specs.Slots.{AreRight, IsKnown, numbers_of}
use Rattle.ask_query.proofs.gathering.answers_of_leaves.Given as goal

abbrev pub invariant-loop-leaf : goal.invariant-loop-leaf
invariant-loop-leaf g l = record {
  done : map (λ r. r.now) l.yielded ++ l.leaf-iterator ≡ l.leaves.items;
  count : length l.known.items ≡ length l.asked.questions.now;
  right : AreRight (world_of l.asked.net.now.world) l.asked.ttl l.asked.questions.now l.known.items;
  put : (k : ℕ) → Contains (map (λ x. x.value) (map (λ r. r.now) l.yielded)) k → All (IsKnown l.known.items) (numbers_of l.asked.slots.now k);
}
