use Rattle.std.proofs.Common.{List, slice_get, sym, subst}
use Rattle.std.specs.Prelude.{option_and_then}
use Rattle.indexmap.specs.IndexMap.{get}
use Rattle.net_types.specs.World.{same_place}
use Rattle.net_view.specs.Borrowed.{world_of}
use Rattle.set_walk.specs.declared.net.PlaceWays.{PlaceWays}
use Rattle.set_walk.specs.Nets.{AreWays}
use Rattle.set_walk.proofs.ScopeLemmas.{all_inside, all_scope}
use Rattle.loop_search.proofs.WholeLemmas.{all_kept}
use Rattle.ask_query.proofs.asked.answers_of.Goals as goal

pub ways_of_one-requires-clause-form : goal.ways_of_one-requires-clause-form
ways_of_one-requires-clause-form g c = c.requires.formed.form

pub ways_of_one-requires-clause-scope : goal.ways_of_one-requires-clause-scope
ways_of_one-requires-clause-scope g c =
    let w = world_of c.args.formed.form.world in
    let all = all_scope w w c.args.formed.tables.diagrams c.everything-scope.result c.everything-scope.ensures.below c.everything-scope.ensures.exact in
    record { below = all.below; kept = all.old_kept; comes = all.old_in }

pub answers_by-requires-clause-net : goal.answers_by-requires-clause-net
answers_by-requires-clause-net g c κs within =
    let f = c.args.formed.tables.diagrams in
    let h = c.ways_of_one.new.table in
    let scope = c.everything-scope.result in
    record {
      ways = subst (λ (ls : List PlaceWays). AreWays (world_of c.args.formed.form.world) h scope (λ p. option_and_then (slice_get ls) (get same_place c.in_ok-ways.ways.positions p))) (sym c.deref.ensures.value) c.in_ok-ways.ensures.ways;
      all = all_kept f h scope c.in_ok-ways.ensures.kept c.everything-scope.ensures.below (all_inside f scope c.everything-scope.ensures.exact);
    }
