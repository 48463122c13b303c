use Rattle.cube_alg.specs.Stamps.{applied}
use Rattle.link_sends.specs.Sending.{next_address}
use Rattle.net_types.specs.Moves.{list_named, send}
use Rattle.net_types.specs.World.{segment_of}
use Rattle.place_ways.proofs.SetLemmas.{keeps_then, kept_below}
use Rattle.place_ways.proofs.AddLemmas.{given_kept}
use Rattle.place_ways.proofs.LeaveLemmas.{passed_lost}
use Rattle.place_ways.proofs.leave.add_passed.Goals as goal

pub join_way-requires-clause-ways : goal.join_way-requires-clause-ways
join_way-requires-clause-ways c =
    let d0 = c.args.table.now in
    let d1 = c.where_passed_after.new.table in
    let d2 = c.without.new.table in
    given_kept d0 d2 c.args.ways.now.ways.items (keeps_then d0 d1 d2 c.in_ok-passed.ensures.kept c.in_ok-lost.ensures.kept) c.requires.ways

pub add_sent-requires-clause-given : goal.add_sent-requires-clause-given
add_sent-requires-clause-given c =
    let d1 = c.where_passed_after.new.table in
    let d2 = c.without.new.table in
    let d3 = c.join_way.new.table in
    kept_below d1 d3 c.in_ok-passed.passed (keeps_then d1 d2 d3 c.in_ok-lost.ensures.kept c.in_ok-join_way.ensures.kept) c.in_ok-passed.ensures.set.below

pub returns-clause-added : goal.returns-clause-added
returns-clause-added c =
    let w = c.args.leaving.at.wiring.now in
    let d0 = c.args.table.now in
    let d1 = c.where_passed_after.new.table in
    let d2 = c.without.new.table in
    let d3 = c.join_way.new.table in
    let d4 = c.add_sent.new.table in
    let out = c.args.leaving.out in
    let s = c.args.stamp in
    let p = c.in_ok-passed in
    let l = c.in_ok-lost in
    passed_lost d0 d1 d2 d3 d4 (list_named c.args.leaving.at.seat.device.now.config out.seat.interface.now.output) out.form.output c.args.given p.passed l.lost s (λ h. send w out.seat.place (next_address c.args.leaving.next h) (applied s h) (segment_of w out.seat.place)) c.args.ways.now.ways.items c.join_way.new.ways.ways.items c.add_sent.new.ways.ways.items c.requires.stamp c.requires.out.output c.requires.given p.ensures.set.below c.requires.ways p.ensures.kept l.ensures.kept c.in_ok-join_way.ensures.kept p.ensures.set.exact l.ensures.set.exact c.in_ok-join_way.ensures.added c.in_ok-add_sent.ensures.added

pub returns-clause-kept : goal.returns-clause-kept
returns-clause-kept c =
    let d0 = c.args.table.now in
    let d1 = c.where_passed_after.new.table in
    let d2 = c.without.new.table in
    let d3 = c.join_way.new.table in
    let d4 = c.add_sent.new.table in
    keeps_then d0 d1 d4 c.in_ok-passed.ensures.kept (keeps_then d1 d2 d4 c.in_ok-lost.ensures.kept (keeps_then d2 d3 d4 c.in_ok-join_way.ensures.kept c.in_ok-add_sent.ensures.kept))
