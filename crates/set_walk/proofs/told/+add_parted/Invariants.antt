use Rattle.set_walk.specs.Told.{field_count}
use Rattle.set_walk.proofs.told.+add_parted.Given as goal

abbrev pub decreases-add_parted : goal.decreases-add_parted
decreases-add_parted l = field_count l.rest
