use Rattle.indexmap.specs.IndexMap.{get}
use Rattle.net_types.specs.World.{same_place}
use Rattle.net_view.specs.Borrowed.{world_of}
use Rattle.place_ways.proofs.PlaceLemmas.{positions_ways, scope_of_kept}
use Rattle.place_ways.proofs.ways.ways_of_one.Goals as goal

pub returns-clause-ways : goal.returns-clause-ways
returns-clause-ways c =
    let w = world_of c.args.form.now.world in
    let f = c.ways_alone.new.table in
    let s = scope_of_kept w c.args.table.now f c.args.scope c.in_ok-ways.ensures.kept c.requires.scope in
    positions_ways w f c.args.scope c.in_ok-ways.ways.lists.items (get same_place c.in_ok-ways.ways.positions) s.below s.kept c.in_ok-ways.ensures.positions
