use Rattle.std.proofs.Common.{subst}
use Rattle.indexmap.specs.IndexMap.{get}
use Rattle.net_types.specs.World.{same_place}
use Rattle.net_view.specs.Borrowed.{world_of}
use Rattle.place_ways.specs.Places.{AreDone, IsNumbered}
use Rattle.place_ways.proofs.PlaceLemmas.{taken_done, taken_right}
use Rattle.place_ways.proofs.ways.add_device.Goals as goal

pub returns-then-has_name-clause-right : goal.returns-then-has_name-clause-right
returns-then-has_name-clause-right c =
    taken_right (world_of c.args.network.form.now.world) c.args.table.now c.args.network.scope c.args.ways.now.lists.items c.args.device.now.name c.as_slice-numbers.result.now c.args.taken.names.now.keys (get same_place c.args.taken.positions.now) (get same_place c.args.ways.now.positions) (get same_place c.take_positions.new.positions) (c.has_name.ensures c.if-has_name.true) c.requires.taken c.in_ok-take_positions.ensures c.requires.right

pub returns-then-has_name-clause-done : goal.returns-then-has_name-clause-done
returns-then-has_name-clause-done c =
    subst (λ xs. AreDone (world_of c.args.network.form.now.world) (get same_place c.take_positions.new.positions) (IsNumbered c.args.device.now.name xs)) c.as_slice-numbers.ensures
    (taken_done (world_of c.args.network.form.now.world) c.args.table.now c.args.network.scope c.args.ways.now.lists.items c.args.device.now.name c.as_slice-numbers.result.now c.args.taken.names.now.keys (get same_place c.args.taken.positions.now) (get same_place c.args.ways.now.positions) (get same_place c.take_positions.new.positions) (c.has_name.ensures c.if-has_name.true) c.requires.taken c.in_ok-take_positions.ensures)

pub returns-then-has_name-clause-losing : goal.returns-then-has_name-clause-losing
returns-then-has_name-clause-losing c = c.in_ok-take_positions.ensures.kept

pub returns-clause-done : goal.returns-clause-done
returns-clause-done c =
    subst (λ xs. AreDone (world_of c.args.network.form.now.world) (get same_place c.add_places.new.ways.positions) (IsNumbered c.args.device.now.name xs)) c.as_slice-numbers.ensures c.in_ok-add_places.ensures.done
