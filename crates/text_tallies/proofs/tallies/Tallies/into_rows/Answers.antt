use Rattle.text_tallies.proofs.Lookups.{tallies_are, if_rows}
use Rattle.text_tallies.proofs.tallies.Tallies.into_rows.Goals as goal

pub returns : goal.returns
returns c = if_rows c.args.self c.sort.new.self c.rows_of.result c.rows_of.ensures (λ ts are. tallies_are ts c.sort.new.self (c.in_ok-sort.ensures.same ts are) c.in_ok-sort.ensures.once c.in_ok-sort.ensures.order)
