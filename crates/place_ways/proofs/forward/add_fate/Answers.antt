use Rattle.std.proofs.Common.{subst}
use Rattle.device_fates.specs.Fates.{IsFate}
use Rattle.net_view.specs.Borrowed.{seat_of}
use Rattle.place_ways.proofs.FateLemmas.{dropped_added, own_added, sent_added}
use Rattle.place_ways.proofs.forward.add_fate.Goals as goal

pub returns-in_ok-join_way-in-Dropped-clause-added : goal.returns-in_ok-join_way-in-Dropped-clause-added
returns-in_ok-join_way-in-Dropped-clause-added c =
    let s = c.args.at in
    dropped_added s.wiring.now (seat_of s.seat) c.args.table.now c.join_way.new.table c.args.given c.args.ways.now.ways.items c.join_way.new.ways.ways.items (λ h v i. subst (λ f. IsFate s.seat.device.now.config f h.dst) c.in-Dropped.is (c.requires.fate h v i)) c.in_ok-join_way-in-Dropped.ensures.added

pub returns-in_ok-join_way-in-Own-clause-added : goal.returns-in_ok-join_way-in-Own-clause-added
returns-in_ok-join_way-in-Own-clause-added c =
    let s = c.args.at in
    own_added s.wiring.now (seat_of s.seat) c.args.table.now c.join_way-in-Own.new.table c.args.given c.in-Own.position c.local-step.result c.args.ways.now.ways.items c.join_way-in-Own.new.ways.ways.items c.requires.at.device.numbers c.local-step.ensures.place (λ h v i. subst (λ f. IsFate s.seat.device.now.config f h.dst) c.in-Own.is (c.requires.fate h v i)) c.in_ok-join_way-in-Own.ensures.added

pub returns-in_ok-add_choices-in-Sent-clause-added : goal.returns-in_ok-add_choices-in-Sent-clause-added
returns-in_ok-add_choices-in-Sent-clause-added c =
    let s = c.args.at in
    sent_added s.wiring.now (seat_of s.seat) c.args.table.now c.add_choices.new.table c.args.given c.in-Sent.choices c.args.ways.now.ways.items c.add_choices.new.ways.ways.items (λ h v i. subst (λ f. IsFate s.seat.device.now.config f h.dst) c.in-Sent.is (c.requires.fate h v i)) (rw c.as_slice.ensures at c.in_ok-add_choices-in-Sent.ensures.added)
