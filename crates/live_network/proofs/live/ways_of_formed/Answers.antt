use Rattle.indexmap.specs.IndexMap.{get}
use Rattle.net_types.specs.World.{same_place}
use Rattle.net_view.specs.Borrowed.{world_of}
use Rattle.set_walk.proofs.ScopeLemmas.{all_inside, all_scope}
use Rattle.set_walk.proofs.SetLemmas.{kept_set, kept_below}
use Rattle.live_network.proofs.live.ways_of_formed.Goals as goal

pub ways_of_one-requires-clause-form : goal.ways_of_one-requires-clause-form
ways_of_one-requires-clause-form c = c.requires.form

pub ways_of_one-requires-clause-scope : goal.ways_of_one-requires-clause-scope
ways_of_one-requires-clause-scope c =
    let w = world_of c.args.formed.form.world in
    let all = all_scope w w c.args.formed.tables.diagrams c.everything-scope.result c.everything-scope.ensures.below c.everything-scope.ensures.exact in
    record { below = all.below; kept = all.old_kept; comes = all.old_in }

pub returns : goal.returns
returns c =
    let f = c.args.formed.tables.diagrams in
    let scope = c.everything-scope.result in
    record {
      scope = kept_below f c.ways_of_one.new.table scope c.in_ok-ways.ensures.kept c.everything-scope.ensures.below;
      ways = c.in_ok-ways.ensures.positions;
      all = λ h. (kept_set f c.ways_of_one.new.table scope h c.in_ok-ways.ensures.kept c.everything-scope.ensures.below).1 (all_inside f scope c.everything-scope.ensures.exact h);
    }
