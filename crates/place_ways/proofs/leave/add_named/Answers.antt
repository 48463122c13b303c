use Rattle.net_forms.proofs.FormLemmas.{seat_form}
use Rattle.net_view.specs.Borrowed.{seat_of}
use Rattle.link_sends.specs.Sending.{next_address}
use Rattle.net_types.specs.World.{seat_named}
use Rattle.place_ways.proofs.LeaveLemmas.{named_none, named_some}
use Rattle.place_ways.proofs.leave.add_named.Goals as goal

pub out_named-requires : goal.out_named-requires
out_named-requires c = c.requires.at.device.seats.count

pub returns-in_default-clause-added : goal.returns-in_default-clause-added
returns-in_default-clause-added c =
    let s = c.args.at in
    named_none s.wiring.now (seat_of s.seat) c.args.table.now c.join_way.new.table c.args.given (next_address c.args.hop.next) (seat_named s.seat.device.now c.args.hop.name.now) c.args.ways.now.ways.items c.join_way.new.ways.ways.items c.in_default.ensures.seat c.in_ok-join_way.ensures.added

pub add_out-requires-clause-out : goal.add_out-requires-clause-out
add_out-requires-clause-out c =
    let s = c.args.at in
    seat_form c.args.table.now s.fates.now s.seat.device.now s.device.now (seat_of c.in-Some.out.seat) c.in-Some.out.form c.requires.at.device c.in-Some.ensures.form

pub returns-clause-added : goal.returns-clause-added
returns-clause-added c =
    let s = c.args.at in
    named_some s.wiring.now (seat_of s.seat) (seat_of c.in-Some.out.seat) c.args.table.now c.add_out.new.table c.args.given (next_address c.args.hop.next) (seat_named s.seat.device.now c.args.hop.name.now) c.args.ways.now.ways.items c.add_out.new.ways.ways.items c.in-Some.ensures.seat c.in_ok-add_out.ensures.added
