use Rattle.net_view.specs.Borrowed.{world_of}
use Rattle.set_walk.proofs.ScopeLemmas.{all_scope}
use Rattle.test_network.proofs.asking.ask_forms.Goals as goal

pub ways_of_both-requires-clause-scope : goal.ways_of_both-requires-clause-scope
ways_of_both-requires-clause-scope c =
    all_scope (world_of c.args.forms.old.now.world) (world_of c.args.forms.new.now.world) c.args.table.now c.everything-scope.result c.everything-scope.ensures.below c.everything-scope.ensures.exact
