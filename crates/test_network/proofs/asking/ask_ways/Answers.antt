use Rattle.std.proofs.Common.{List, slice_get, sym, subst}
use Rattle.std.specs.Prelude.{option_and_then}
use Rattle.indexmap.specs.IndexMap.{get}
use Rattle.net_types.specs.World.{same_place}
use Rattle.net_view.specs.Borrowed.{world_of}
use Rattle.set_walk.specs.declared.net.PlaceWays.{PlaceWays}
use Rattle.set_walk.specs.Nets.{AreWays}
use Rattle.test_network.proofs.asking.ask_ways.Goals as goal

pub ask_visits-requires : goal.ask_visits-requires
ask_visits-requires c = subst (λ (ls : List PlaceWays). AreWays (world_of c.args.world) c.args.table.now c.args.scope (λ p. option_and_then (slice_get ls) (get same_place c.args.ways.now.old p))) (sym c.deref.ensures.value) c.requires
