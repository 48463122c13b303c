use Rattle.net_load.proofs.ReadingLemmas.{none_known}
use Rattle.net_load.proofs.readings.read_by_workers.Goals as goal

pub returns : goal.returns
returns g c = c.add_shares.ensures c.args.texts.now c.in_ok-shares.ensures (none_known c.args.texts.now c.in_ok-known.known.items c.in_ok-known.ensures)
