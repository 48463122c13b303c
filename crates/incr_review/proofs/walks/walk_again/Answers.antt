use Rattle.std.proofs.Common.{subst, sym, List}
use Rattle.net_view.specs.Borrowed.{world_of}
use Rattle.incr_review.specs.declared.regions.Region.{Region}
use Rattle.incr_review.specs.Again.{ArePlaced}
use Rattle.incr_review.specs.Groups.{IsDisjoint}
use Rattle.incr_review.proofs.walks.walk_again.Goals as goal

pub regions_after-requires-clause-placed : goal.regions_after-requires-clause-placed
regions_after-requires-clause-placed c =
    subst (λ (rs : List Region). ArePlaced (world_of c.args.again.net.now.world).links.ingress c.args.table.now rs) (sym c.deref.ensures.value) c.requires.placed

pub regions_after-requires-clause-disjoint : goal.regions_after-requires-clause-disjoint
regions_after-requires-clause-disjoint c = subst (λ (rs : List Region). IsDisjoint c.args.table.now rs) (sym c.deref.ensures.value) c.requires.disjoint
