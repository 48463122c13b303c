use Rattle.nat_static.proofs.compiled.stamps_of.Goals as goal
use Rattle.nat_static.proofs.StampedLemmas.{stamps_more}

pub loop-part-preserved : goal.loop-part-preserved
loop-part-preserved c =
    stamps_more c.args.direction c.args.rules.now c.args.parts.now c.loop-part.part-index c.part-item.result c.loop-part.stamps.items c.add_stamps.new.stamps.items c.loop-part-test.true c.part-item.is c.requires.apart c.loop-part.invariant c.in_ok-add_stamps.ensures
