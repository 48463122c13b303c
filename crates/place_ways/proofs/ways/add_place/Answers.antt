use Rattle.indexmap.specs.IndexMap.{get}
use Rattle.net_types.specs.World.{same_place}
use Rattle.net_view.specs.Borrowed.{world_of}
use Rattle.place_ways.proofs.PlaceLemmas.{put_done, put_loses, put_right, right_kept}
use Rattle.place_ways.proofs.ways.add_place.Goals as goal

pub returns-clause-right : goal.returns-clause-right
returns-clause-right c =
    let w = world_of c.args.network.form.now.world in
    let f = c.args.table.now in
    let g = c.position_at.new.table in
    let old = c.args.ways.now.lists.items in
    let new = c.position_at.new.lists.items in
    let o = c.in_ok-position.ensures in
    let before = get same_place c.args.ways.now.positions in
    put_right w g c.args.network.scope new c.args.place c.in_ok-position.position before (get same_place c.put_position.new.positions) c.in_ok-put_position.ensures o.position (right_kept w f g c.args.network.scope old new o.kept c.requires.network.scope.below o.lists before c.requires.right)

pub returns-clause-done : goal.returns-clause-done
returns-clause-done c =
    put_done (world_of c.args.network.form.now.world) c.position_at.new.table c.args.network.scope c.position_at.new.lists.items c.args.place c.in_ok-position.position (get same_place c.args.ways.now.positions) (get same_place c.put_position.new.positions) c.in_ok-put_position.ensures c.in_ok-position.ensures.position

pub returns-clause-losing : goal.returns-clause-losing
returns-clause-losing c = put_loses c.args.place c.in_ok-position.position (get same_place c.args.ways.now.positions) (get same_place c.put_position.new.positions) c.in_ok-put_position.ensures
