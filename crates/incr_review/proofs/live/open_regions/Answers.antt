use Rattle.std.proofs.Common.{subst, sym, List, slice_get}
use Rattle.std.specs.Prelude.{option_and_then}
use Rattle.indexmap.specs.IndexMap.{get}
use Rattle.net_types.specs.World.{same_place}
use Rattle.net_view.specs.Borrowed.{world_of}
use Rattle.set_walk.specs.declared.net.PlaceWays.{PlaceWays}
use Rattle.set_walk.specs.Nets.{AreWays}
use Rattle.live_network.proofs.LiveLemmas.{ways_of_live}
use Rattle.incr_review.proofs.live.open_regions.Goals as goal

pub opened-requires-clause-net : goal.opened-requires-clause-net
opened-requires-clause-net c =
    let n = c.args.live.now in
    let w = world_of c.args.world in
    subst (λ (ls : List PlaceWays). AreWays w n.tables.diagrams n.scope (λ p. option_and_then (slice_get ls) (get same_place n.ways.positions p))) (sym c.deref.ensures.value)
    (ways_of_live w n c.requires.live)
