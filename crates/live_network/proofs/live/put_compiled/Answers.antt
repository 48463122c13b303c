use Rattle.std.proofs.Common.{refl}
use Rattle.hdr_bits.proofs.ListLemmas.{extends_none}
use Rattle.live_network.proofs.live.put_compiled.Goals as goal

pub returns-in_err-form-clause-renewed : goal.returns-in_err-form-clause-renewed
returns-in_err-form-clause-renewed c = record { scope = refl; lists = extends_none c.args.live.now.ways.lists.items; kept = c.in_err-form.ensures.kept.diagrams }
