use Rattle.cube_diagram.proofs.destinations.+by_destination.Given as goal

abbrev pub decreases-by_destination : goal.decreases-by_destination
decreases-by_destination l = l.id
