use Rattle.std.proofs.Common.{◌≡◌, ◌+◌, ◌≤◌, length, take}
use Rattle.steal_pool.specs.Pushes.{PushesParts}
use Rattle.steal_pool.proofs.pool.push_all.Given as goal

abbrev pub invariant-loop-i : goal.invariant-loop-i
invariant-loop-i l = PushesParts l.initial.owner l.owner (take l.i l.fn.parts) × (length l.owner.pushed ≡ length l.initial.owner.pushed + l.pushed) × (l.pushed ≤ l.i)
