use Rattle.std.proofs.Common.{List, slice_get, refl, sym, subst}
use Rattle.std.specs.Prelude.{option_and_then}
use Rattle.indexmap.specs.IndexMap.{get}
use Rattle.net_types.specs.World.{same_place}
use Rattle.net_view.specs.Borrowed.{world_of}
use Rattle.set_walk.specs.declared.net.PlaceWays.{PlaceWays}
use Rattle.set_walk.specs.Nets.{AreWays}
use Rattle.live_network.proofs.LiveLemmas.{live_grown, ways_of_live}
use Rattle.rollout.proofs.touched.touched_between.Goals as goal

pub touched_by-requires-clause-old : goal.touched_by-requires-clause-old
touched_by-requires-clause-old c =
    let n = c.args.live.now in
    subst (λ (ls : List PlaceWays). AreWays (world_of c.args.networks.old) n.tables.diagrams n.scope (λ p. option_and_then (slice_get ls) (get same_place c.args.before.now p))) (sym c.deref.ensures.value) c.requires.before

pub touched_by-requires-clause-new : goal.touched_by-requires-clause-new
touched_by-requires-clause-new c =
    let n = c.args.live.now in
    let w = world_of c.args.networks.new in
    subst (λ (ls : List PlaceWays). AreWays w n.tables.diagrams n.scope (λ p. option_and_then (slice_get ls) (get same_place n.ways.positions p))) (sym c.deref-2.ensures.value) (ways_of_live w n c.requires.live)

pub returns-clause-live : goal.returns-clause-live
returns-clause-live c =
    let n = c.args.live.now in
    live_grown (world_of c.args.networks.new) n (record n { tables = record n.tables { diagrams = c.touched_by.new.table } }) refl refl c.in_ok-touched.ensures.kept c.requires.live
