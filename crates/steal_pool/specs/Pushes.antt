-- What a turn of a worker does to its lane and to the board.
use Rattle.std.specs.Prelude.{ℕ, ◌≡◌, ◌-◌, List, ◌++◌, length, map, take}
use Rattle.task_board.specs.declared.leaf.Leaf.{Leaf}
use Rattle.task_board.specs.declared.leaf.Part.{Part}
use Rattle.task_board.specs.Stands.{Standing, Settles, part_of}
use Rattle.steal_pool.specs.declared.rule.Task.{Task}
use Rattle.steal_pool.specs.Seats.{OwnerSeat}

-- the parts were pushed in order, as many as the lane takes, and nothing else
pub record PushesParts (old new : OwnerSeat) (parts : List Part) : Type 0 where
  pub tasks : List Task
  pub pushed : new ≡ record old { pushed = old.pushed ++ tasks }
  pub are : map (λ (t : Task). part_of t.region t.ticket) tasks ≡ take (old.capacity - length old.pushed) parts

-- the region under the ticket was settled with these leaves and parts, and the parts were pushed with their tickets
pub record EndsTurn {M V : Type 0} (old new : Standing M V) (before after : OwnerSeat) (ticket : ℕ) (leaves : List (Leaf V)) (rest : List Part) : Type 0 where
  pub parts : List Part
  pub regions : map (λ (p : Part). p.region) parts ≡ map (λ (p : Part). p.region) rest
  pub settled : Settles old new ticket leaves parts
  pub pushed : PushesParts before after parts
