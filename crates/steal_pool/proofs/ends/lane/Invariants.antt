use Rattle.std.proofs.Common.{◌≡◌, ◌+◌, ◌++◌, ◌∷◌, All, vec_len, []}
use Rattle.crossbeam_deque.specs.Handles.{view, IsPassOf}
use Rattle.steal_pool.specs.Paths.{extensions, levels}
use Rattle.steal_pool.specs.Seats.{port_paths, singles}
use Rattle.steal_pool.proofs.ends.lane.Given as goal

abbrev pub invariant-loop : goal.invariant-loop
invariant-loop l =
    (l.owner ≡ record l.initial.owner { paths = l.owner.paths })
    × All (λ p. IsPassOf l.initial.owner.lane p × ((view p).taken ≡ [])) l.rest.items
    × (port_paths (l.pass ∷ l.rest.items) ++ singles l.owner.paths ≡ singles (extensions levels []))
    × (vec_len l.rest + 1 ≡ l.counter)
