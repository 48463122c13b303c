use Rattle.std.proofs.Common.{arith}
use Rattle.std.proofs.lemmas.Grind.{common_steps}
use Rattle.hdr_bits.proofs.ListLemmas.{extends_none, extends_then}
use Rattle.net_types.specs.Moves.{is_inside}
use Rattle.net_view.specs.Borrowed.{seat_of}
use Rattle.place_ways.proofs.SetLemmas.{keeps_then, kept_below}
use Rattle.place_ways.proofs.FateLemmas.{at_kept}
use Rattle.place_ways.proofs.BaseLemmas.{base_kept, bases_kept, seat_base}
use Rattle.place_ways.proofs.base.seat_position.Goals as goal

pub takes_all-requires : goal.takes_all-requires
takes_all-requires c = at_kept c.args.table.now c.base_position.new.table c.args.at c.in_ok-base.ensures.kept c.requires.at

pub returns-then-is_base-clause-ways : goal.returns-then-is_base-clause-ways
returns-then-is_base-clause-ways c =
    let s = c.args.at in
    let g = c.base_position.new.table in
    let k = c.takes_all.new.table in
    let lists = c.base_position.new.lists.items in
    let seat = seat_of s.seat in
    seat_base s.wiring.now k s.scope lists seat c.in_ok-base.base (base_kept s.wiring.now g k s.scope lists lists s.seat.device.now c.in_ok-is_base.ensures.kept (kept_below c.args.table.now g s.scope c.in_ok-base.ensures.kept c.requires.at.scope) (extends_none lists) (is_inside seat.interface.side) c.in_ok-base.base c.in_ok-base.ensures.base) (c.in_ok-is_base.ensures.same c.if-is_base.true)

pub returns-then-is_base-clause-bases : goal.returns-then-is_base-clause-bases
returns-then-is_base-clause-bases c =
    let s = c.args.at in
    let lists = c.base_position.new.lists.items in
    bases_kept s.wiring.now c.base_position.new.table c.takes_all.new.table s.scope lists lists s.seat.device.now c.in_ok-is_base.ensures.kept (kept_below c.args.table.now c.base_position.new.table s.scope c.in_ok-base.ensures.kept c.requires.at.scope) (extends_none lists) c.base_position.new.bases c.in_ok-base.ensures.bases

pub returns-then-is_base-clause-kept : goal.returns-then-is_base-clause-kept
returns-then-is_base-clause-kept c = keeps_then c.args.table.now c.base_position.new.table c.takes_all.new.table c.in_ok-base.ensures.kept c.in_ok-is_base.ensures.kept

pub add_own-requires-clause-at : goal.add_own-requires-clause-at
add_own-requires-clause-at c =
    at_kept c.args.table.now c.takes_all.new.table c.args.at (keeps_then c.args.table.now c.base_position.new.table c.takes_all.new.table c.in_ok-base.ensures.kept c.in_ok-is_base.ensures.kept) c.requires.at

pub add_own-requires-clause-base : goal.add_own-requires-clause-base
add_own-requires-clause-base c =
    let s = c.args.at in
    let lists = c.base_position.new.lists.items in
    base_kept s.wiring.now c.base_position.new.table c.takes_all.new.table s.scope lists lists s.seat.device.now c.in_ok-is_base.ensures.kept (kept_below c.args.table.now c.base_position.new.table s.scope c.in_ok-base.ensures.kept c.requires.at.scope) (extends_none lists) (is_inside (seat_of s.seat).interface.side) c.in_ok-base.base c.in_ok-base.ensures.base

pub returns-clause-bases : goal.returns-clause-bases
returns-clause-bases c =
    let s = c.args.at in
    let lists = c.base_position.new.lists.items in
    bases_kept s.wiring.now c.base_position.new.table c.add_own.new.table s.scope lists c.add_own.new.lists.items s.seat.device.now (keeps_then c.base_position.new.table c.takes_all.new.table c.add_own.new.table c.in_ok-is_base.ensures.kept c.in_ok-position.ensures.kept) (kept_below c.args.table.now c.base_position.new.table s.scope c.in_ok-base.ensures.kept c.requires.at.scope) c.in_ok-position.ensures.lists c.base_position.new.bases c.in_ok-base.ensures.bases

pub returns-clause-lists : goal.returns-clause-lists
returns-clause-lists c = extends_then c.args.lists.now.items c.base_position.new.lists.items c.add_own.new.lists.items c.in_ok-base.ensures.lists c.in_ok-position.ensures.lists

pub returns-clause-kept : goal.returns-clause-kept
returns-clause-kept c =
    let d0 = c.args.table.now in
    let d1 = c.base_position.new.table in
    let d2 = c.takes_all.new.table in
    let d3 = c.add_own.new.table in
    keeps_then d0 d1 d3 c.in_ok-base.ensures.kept (keeps_then d1 d2 d3 c.in_ok-is_base.ensures.kept c.in_ok-position.ensures.kept)

pub returns-in_err-position-clause-lists : goal.returns-in_err-position-clause-lists
returns-in_err-position-clause-lists c = grind (arith, common_steps)
