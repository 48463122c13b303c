use Rattle.indexmap.specs.IndexMap.{get}
use Rattle.net_types.specs.World.{same_place}
use Rattle.net_view.specs.Borrowed.{world_of}
use Rattle.place_ways.proofs.PlaceLemmas.{none_taken}
use Rattle.place_ways.proofs.ways.ways_alone.Goals as goal

pub ways_beside-requires-clause-taken : goal.ways_beside-requires-clause-taken
ways_beside-requires-clause-taken c =
    none_taken (world_of c.args.network.form.now.world) c.args.table.now c.args.network.scope _ (get same_place c.new-positions.result) c.new-names.result.keys c.new-names.ensures.empty
