use Rattle.place_ways.proofs.SetLemmas.{keeps_then}
use Rattle.place_ways.proofs.AddLemmas.{given_kept}
use Rattle.place_ways.proofs.LinkLemmas.{address_added}
use Rattle.place_ways.proofs.link.add_address.Goals as goal

pub add_sent_to-requires-clause-ways : goal.add_sent_to-requires-clause-ways
add_sent_to-requires-clause-ways c = given_kept c.args.table.now c.where_value.new.table c.args.ways.now.ways.items c.in_ok-part.ensures.kept c.requires.ways

pub returns-clause-added : goal.returns-clause-added
returns-clause-added c =
    let l = c.args.link in
    address_added l.wiring.now l.place l.stamp c.args.table.now c.where_value.new.table c.add_sent_to.new.table c.args.function c.args.address c.args.given c.in_ok-part.part c.args.ways.now.ways.items c.add_sent_to.new.ways.ways.items c.in_ok-part.ensures.kept c.requires.ways c.requires.tells c.in_ok-part.ensures.set.exact c.in_ok-add_sent_to.ensures.added

pub returns-clause-kept : goal.returns-clause-kept
returns-clause-kept c = keeps_then c.args.table.now c.where_value.new.table c.add_sent_to.new.table c.in_ok-part.ensures.kept c.in_ok-add_sent_to.ensures.kept
