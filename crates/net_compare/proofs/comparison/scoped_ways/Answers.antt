use Rattle.net_view.specs.Borrowed.{world_of}
use Rattle.set_walk.proofs.ScopeLemmas.{scope_kept}
use Rattle.place_ways.proofs.PlaceLemmas.{form_kept}
use Rattle.net_compare.proofs.comparison.scoped_ways.Goals as goal

pub ways_of_both-requires-clause-forms : goal.ways_of_both-requires-clause-forms
ways_of_both-requires-clause-forms c =
    let f = c.args.table.now in
    let g = c.scope_of.new.table in
    let forms = c.args.forms in
    let kept = c.in_ok-scope.ensures.kept in
    record {
      old = form_kept f g forms.fates.now forms.old.now kept c.requires.old;
      new = form_kept f g forms.fates.now forms.new.now kept c.requires.new;
      like = c.requires.like;
    }

pub returns-clause-beyond : goal.returns-clause-beyond
returns-clause-beyond c =
    (scope_kept (world_of c.args.forms.old.now.world) (world_of c.args.forms.new.now.world) c.scope_of.new.table c.ways_of_both.new.table c.in_ok-scope.scope c.in_ok-ways.ensures.kept c.in_ok-scope.ensures.scope).beyond
