use Rattle.std.proofs.Common.{arith}
use Rattle.net_load.proofs.ReadingLemmas.{reading_more}
use Rattle.net_load.proofs.readings.put.Goals as goal

pub returns-then-read-len : goal.returns-then-read-len
returns-then-read-len c texts right before = reading_more texts c.args.known.now.items c.args.read (let within = c.if-read-len.true in let count = c.len.ensures in let same = c.args.known.now.ok in omega (arith, within, count, same)) right before
