use Rattle.indexmap.specs.IndexMap.{get}
use Rattle.net_types.specs.World.{same_place}
use Rattle.net_view.specs.Borrowed.{world_of}
use Rattle.set_walk.proofs.ScopeLemmas.{scope_kept}
use Rattle.place_ways.proofs.SetLemmas.{keeps_then, kept_below}
use Rattle.place_ways.proofs.PlaceLemmas.{form_kept, scope_of_kept, like_taken, positions_kept, positions_ways}
use Rattle.place_ways.proofs.ways.ways_of_both.Goals as goal

pub ways_alone-requires : goal.ways_alone-requires
ways_alone-requires c = record { form = c.requires.forms.old; scope = record { below = c.requires.scope.below; kept = c.requires.scope.old_kept; comes = c.requires.scope.old_in } }

pub ways_beside-requires-clause-network : goal.ways_beside-requires-clause-network
ways_beside-requires-clause-network c =
    let f = c.args.table.now in
    let g = c.ways_alone.new.table in
    let new = c.args.forms.new.now in
    let k = c.in_ok-before.ensures.kept in
    record {
      form = form_kept f g c.args.forms.fates.now new k c.requires.forms.new;
      scope = scope_of_kept (world_of new.world) f g c.args.scope k (record { below = c.requires.scope.below; kept = c.requires.scope.new_kept; comes = c.requires.scope.new_in });
    }

pub ways_beside-requires-clause-taken : goal.ways_beside-requires-clause-taken
ways_beside-requires-clause-taken c =
    like_taken (world_of c.args.forms.old.now.world) c.ways_alone.new.table c.args.scope c.in_ok-before.before.lists.items (get same_place c.in_ok-before.before.positions) (world_of c.args.forms.new.now.world) c.args.forms.like.now.keys c.requires.forms.like c.in_ok-before.ensures.positions

pub returns-clause-old : goal.returns-clause-old
returns-clause-old c =
    let w = world_of c.args.forms.old.now.world in
    let f = c.ways_alone.new.table in
    let g = c.ways_beside.new.table in
    let one = c.in_ok-before.before.lists.items in
    let both = c.in_ok-after.after.lists.items in
    let at = get same_place c.in_ok-before.before.positions in
    let o = c.in_ok-after.ensures in
    let k = keeps_then c.args.table.now f g c.in_ok-before.ensures.kept o.kept in
    let s = scope_kept w (world_of c.args.forms.new.now.world) c.args.table.now g c.args.scope k c.requires.scope in
    positions_ways w g c.args.scope both at s.below s.old_kept (positions_kept w f g c.args.scope one both o.kept (kept_below c.args.table.now f c.args.scope c.in_ok-before.ensures.kept c.requires.scope.below) o.lists at c.in_ok-before.ensures.positions)

pub returns-clause-new : goal.returns-clause-new
returns-clause-new c =
    let g = c.ways_beside.new.table in
    let k = keeps_then c.args.table.now c.ways_alone.new.table g c.in_ok-before.ensures.kept c.in_ok-after.ensures.kept in
    let s = scope_kept (world_of c.args.forms.old.now.world) (world_of c.args.forms.new.now.world) c.args.table.now g c.args.scope k c.requires.scope in
    positions_ways (world_of c.args.forms.new.now.world) g c.args.scope c.in_ok-after.after.lists.items (get same_place c.in_ok-after.after.positions) s.below s.new_kept c.in_ok-after.ensures.positions

pub returns-clause-kept : goal.returns-clause-kept
returns-clause-kept c = keeps_then c.args.table.now c.ways_alone.new.table c.ways_beside.new.table c.in_ok-before.ensures.kept c.in_ok-after.ensures.kept
