use Rattle.place_ways.proofs.StampLemmas.{sent_fits}
use Rattle.place_ways.proofs.LinkLemmas.{sent_to_added}
use Rattle.place_ways.proofs.link.add_sent_to.Goals as goal
use Rattle.std.proofs.Common.{sym, subst}
use Rattle.set_walk.specs.Ways.{IsStamp, OfStamp}

pub join_way-requires-clause-fits : goal.join_way-requires-clause-fits
join_way-requires-clause-fits c =
    subst (OfStamp IsStamp) (sym c.stamped_step-step.ensures) (sent_fits c.args.link.place c.args.link.stamp c.sent_to-sent.result c.requires.stamp)

pub returns-clause-added : goal.returns-clause-added
returns-clause-added c =
    sent_to_added c.args.link.wiring.now c.args.link.place c.args.link.stamp c.args.table.now c.join_way.new.table c.args.address c.args.given c.sent_to-sent.result c.stamped_step-step.result c.args.ways.now.ways.items c.join_way.new.ways.ways.items c.stamped_step-step.ensures c.sent_to-sent.ensures c.in_ok-join_way.ensures.added
