use Rattle.std.proofs.Common.{ap, subst}
use Rattle.std.specs.Map.{lookup}
use Rattle.indexmap.specs.IndexMap.{get}
use Rattle.net_types.specs.World.{same_place}
use Rattle.net_view.specs.Borrowed.{world_of}
use Rattle.place_ways.specs.Places.{AreDone, IsPlaceIn}
use Rattle.place_ways.proofs.PlaceLemmas.{all_placed, right_none}
use Rattle.place_ways.proofs.ways.ways_beside.Goals as goal

pub add_devices-requires-clause-right : goal.add_devices-requires-clause-right
add_devices-requires-clause-right c =
    right_none (world_of c.args.network.form.now.world) c.args.table.now c.args.network.scope c.args.lists.items (get same_place c.new.result) (λ p. ap (lookup (same_place p)) c.new.ensures.empty)

pub returns-clause-positions : goal.returns-clause-positions
returns-clause-positions c =
    let w = world_of c.args.network.form.now.world in
    let at = get same_place c.add_devices.new.ways.positions in
    let o = c.in_ok-add_devices.ensures in
    all_placed w c.add_devices.new.table c.args.network.scope c.add_devices.new.ways.lists.items at o.right (subst (λ xs. AreDone w at (IsPlaceIn xs)) c.as_slice-devices.ensures o.done)
