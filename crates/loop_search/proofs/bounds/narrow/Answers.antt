use Rattle.loop_search.proofs.WholeLemmas.{whole_kept}
use Rattle.loop_search.proofs.bounds.narrow.Goals as goal

pub sweep_back-requires-clause-net : goal.sweep_back-requires-clause-net
sweep_back-requires-clause-net c = whole_kept c.args.table.now c.loop-number.table c.args.net.now c.loop-number.invariant.kept c.requires.net

pub sweep_forth-requires-clause-net : goal.sweep_forth-requires-clause-net
sweep_forth-requires-clause-net c = whole_kept c.args.table.now c.loop-number.table c.args.net.now c.loop-number.invariant.kept c.requires.net
