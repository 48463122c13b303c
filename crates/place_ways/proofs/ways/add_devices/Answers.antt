use Rattle.std.proofs.Common.{take_all, subst}
use Rattle.hdr_bits.proofs.ListLemmas.{extends_none, extends_then}
use Rattle.indexmap.specs.IndexMap.{get}
use Rattle.net_types.specs.World.{same_place}
use Rattle.net_view.specs.Borrowed.{world_of}
use Rattle.place_ways.specs.Places.{AreDone, IsPlaceIn}
use Rattle.place_ways.proofs.SetLemmas.{keeps_same, keeps_then}
use Rattle.place_ways.proofs.PlaceLemmas.{devices_done, devices_none, scoped_kept, taken_kept}
use Rattle.place_ways.proofs.ways.add_devices.Goals as goal

pub loop-device-init : goal.loop-device-init
loop-device-init c =
    record {
      kept = keeps_same c.args.table.now;
      lists = extends_none c.args.ways.now.lists.items;
      right = c.requires.right;
      done = devices_none (world_of c.args.network.form.now.world) (get same_place c.args.ways.now.positions);
    }

pub add_device-requires-clause-network : goal.add_device-requires-clause-network
add_device-requires-clause-network c = scoped_kept c.args.table.now c.loop-device.table c.args.network c.loop-device.invariant.kept c.requires.network

pub add_device-requires-clause-taken : goal.add_device-requires-clause-taken
add_device-requires-clause-taken c =
    taken_kept (world_of c.args.network.form.now.world) c.args.table.now c.loop-device.table c.args.network.scope c.args.ways.now.lists.items c.loop-device.ways.lists.items c.loop-device.invariant.kept c.requires.network.scope.below c.loop-device.invariant.lists c.args.taken.names.now.keys (get same_place c.args.taken.positions.now) c.requires.taken

pub add_device-requires-clause-right : goal.add_device-requires-clause-right
add_device-requires-clause-right c = c.loop-device.invariant.right

pub loop-device-preserved : goal.loop-device-preserved
loop-device-preserved c =
    let w = world_of c.args.network.form.now.world in
    let l = c.loop-device in
    let i = l.invariant in
    let o = c.in_ok-add_device.ensures in
    let d = c.device-item.result in
    record {
      kept = keeps_then c.args.table.now l.table c.add_device.new.table i.kept o.kept;
      lists = extends_then c.args.ways.now.lists.items l.ways.lists.items c.add_device.new.ways.lists.items i.lists o.lists;
      right = o.right;
      done = devices_done w c.args.devices.now l.device-index d (get same_place l.ways.positions) (get same_place c.add_device.new.ways.positions) c.loop-device-test.true c.device-item.is o.losing o.done i.done;
    }

pub returns-clause-right : goal.returns-clause-right
returns-clause-right c = c.loop-device.invariant.right

pub returns-clause-done : goal.returns-clause-done
returns-clause-done c =
    let l = c.loop-device in
    subst (λ xs. AreDone (world_of c.args.network.form.now.world) (get same_place l.ways.positions) (IsPlaceIn xs)) (take_all l.device-index c.args.devices.now c.loop-device-test.false) l.invariant.done
