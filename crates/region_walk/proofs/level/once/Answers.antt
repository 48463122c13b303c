use Rattle.std.proofs.lemmas.List.Filters.{dedup_is}
use Rattle.region_walk.proofs.Turns.{once_same}
use Rattle.region_walk.proofs.level.once.Goals as goal

pub returns : goal.returns
returns c = once_same _ _ _ c.in_ok-sort.ensures.permutation (dedup_is _ _ _ c.dedup.ensures.filtered)
