use Rattle.std.proofs.Common.{List, slice_get, subst, sym}
use Rattle.std.specs.Prelude.{option_and_then}
use Rattle.indexmap.specs.IndexMap.{get}
use Rattle.net_types.specs.World.{same_place}
use Rattle.net_view.specs.Borrowed.{world_of}
use Rattle.set_walk.specs.declared.net.PlaceWays.{PlaceWays}
use Rattle.set_walk.specs.Nets.{AreWays}
use Rattle.live_network.proofs.LiveLemmas.{ways_of_live}
use Rattle.net_variants.proofs.comparing.sections_between.Goals as goal

pub compare_known-requires-clause-old : goal.compare_known-requires-clause-old
compare_known-requires-clause-old g c κs within =
    let n = c.args.live.now in
    subst (λ (ls : List PlaceWays). AreWays (world_of c.args.networks.old) n.tables.diagrams n.scope (λ p. option_and_then (slice_get ls) (get same_place c.args.before.now p))) (sym c.deref.ensures.value) c.requires.before

pub compare_known-requires-clause-new : goal.compare_known-requires-clause-new
compare_known-requires-clause-new g c κs within =
    let n = c.args.live.now in
    let w = world_of c.args.networks.new in
    subst (λ (ls : List PlaceWays). AreWays w n.tables.diagrams n.scope (λ p. option_and_then (slice_get ls) (get same_place n.ways.positions p))) (sym c.deref-2.ensures.value) (ways_of_live w n c.requires.live)

-- no header is outside a scope that has all
pub compare_known-requires-clause-beyond : goal.compare_known-requires-clause-beyond
compare_known-requires-clause-beyond g c κs within =
    let all = c.requires.live.all in
    record { agree = λ p h i out. absurd (out (all h)); stays = λ p q h z i out m. absurd (out (all h)) }
