use Rattle.std.proofs.Common.{◌≡◌, ◌+◌, [], All}
use Rattle.crossbeam_deque.specs.Handles.{view, IsPassOf}
use Rattle.steal_pool.specs.Paths.{Word, total, begins}
use Rattle.steal_pool.specs.Seats.{port_paths}
use Rattle.steal_pool.proofs.ends.Owner.gain_all.Given as goal

abbrev pub invariant-loop-spare : goal.invariant-loop-spare
invariant-loop-spare l =
    (l.self ≡ record l.initial.self { paths = l.self.paths })
    × All (λ p. IsPassOf l.initial.self.lane p × ((view p).taken ≡ [])) l.spares.items
    × ((w : Word) → total (begins w) l.self.paths + total (total (begins w)) (port_paths l.spares.items) ≡ total (begins w) l.initial.self.paths + total (total (begins w)) (port_paths l.initial.spares.items))

abbrev pub decreases-loop-spare : goal.decreases-loop-spare
decreases-loop-spare l = goal.left-loop-spare l
