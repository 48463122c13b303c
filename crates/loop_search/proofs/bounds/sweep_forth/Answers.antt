use Rattle.loop_search.proofs.WholeLemmas.{whole_kept}
use Rattle.loop_search.proofs.bounds.sweep_forth.Goals as goal

pub narrow_at-requires-clause-net : goal.narrow_at-requires-clause-net
narrow_at-requires-clause-net c = whole_kept c.args.table.now c.loop-index.table c.args.net.now c.loop-index.invariant.kept c.requires.net
