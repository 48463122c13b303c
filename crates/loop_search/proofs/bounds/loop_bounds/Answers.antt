use Rattle.std.proofs.Common.{ℕ, List, sym, subst}
use Rattle.loop_search.specs.Bounds.{AreBounds}
use Rattle.loop_search.proofs.BoundsLemmas.{all_bounds}
use Rattle.loop_search.proofs.bounds.loop_bounds.Goals as goal

pub returns-then-not-asks_of_loops-clause-bounds : goal.returns-then-not-asks_of_loops-clause-bounds
returns-then-not-asks_of_loops-clause-bounds c = all_bounds c.args.table.now c.args.net.now c.in_ok-bounds.bounds.items c.everything.result c.requires c.everything.ensures.exact (c.in_ok-bounds.ensures.items_if_clones_equal (λ y e. e))

pub narrow-requires-clause-bounds : goal.narrow-requires-clause-bounds
narrow-requires-clause-bounds c = subst (λ (bs : List ℕ). AreBounds c.args.table.now c.args.net.now bs) (sym c.deref_mut.ensures.value) (all_bounds c.args.table.now c.args.net.now c.in_ok-bounds.bounds.items c.everything.result c.requires c.everything.ensures.exact (c.in_ok-bounds.ensures.items_if_clones_equal (λ y e. e)))
