use Rattle.std.proofs.Common.{List, ◌∷◌, [], ◌∙◌, sym, Some, if◌then◌else◌}
use Rattle.hdr_bits.specs.declared.header.Header.{Header}
use Rattle.net_types.specs.declared.network.Move.{Move}
use Rattle.net_types.specs.declared.network.Move.TheVariants.{Drop}
use Rattle.net_types.specs.AccessLists.{verdict, passes}
use Rattle.net_types.specs.Moves.{moves_in, moves_at, coming_in, list_named, passes_list}
use Rattle.net_types.specs.Routes.{is_enabled}
use Rattle.net_view.specs.Borrowed.{seat_of}
use Rattle.place_ways.proofs.SetLemmas.{keeps_then, kept_below, kept_set}
use Rattle.place_ways.proofs.AddLemmas.{given_kept}
use Rattle.place_ways.proofs.FateLemmas.{at_kept}
use Rattle.place_ways.proofs.ArriveLemmas.{let_in_added, shut_added, same_lists, opened, closed}
use Rattle.place_ways.proofs.BaseLemmas.{ways_in_kept}
use Rattle.place_ways.proofs.arrive.add_arrivals.Goals as goal

pub returns-then-not-is_enabled-clause-added : goal.returns-then-not-is_enabled-clause-added
returns-then-not-is_enabled-clause-added c =
    let w = c.args.at.wiring.now in
    let seat = seat_of c.args.at.seat in
    let i = seat.interface in
    shut_added c.args.table.now c.args.at.scope (moves_at w (Some seat)) c.args.ways.now.items c.add_way.new.ways.items (λ h. closed (is_enabled i) (passes_list seat.device.config i.input h) (moves_in w seat (coming_in seat h)) (Drop ∷ []) (sym c.is_enabled.ensures ∙ c.if-not-is_enabled.true)) c.in_ok-add_way.ensures

pub where_passed-requires-clause-list : goal.where_passed-requires-clause-list
where_passed-requires-clause-list c = c.requires.at.form.input.below

pub add_way-requires-2-clause-ways : goal.add_way-requires-2-clause-ways
add_way-requires-2-clause-ways c =
    let d0 = c.args.table.now in
    let d1 = c.where_passed.new.table in
    let d2 = c.without.new.table in
    given_kept d0 d2 c.args.ways.now.items (keeps_then d0 d1 d2 c.in_ok-passed.ensures.kept c.in_ok-denied.ensures.kept) c.requires.ways

pub add_let_in-requires-clause-at : goal.add_let_in-requires-clause-at
add_let_in-requires-clause-at c =
    let d0 = c.args.table.now in
    let d1 = c.where_passed.new.table in
    let d2 = c.without.new.table in
    at_kept d0 d2 c.args.at (keeps_then d0 d1 d2 c.in_ok-passed.ensures.kept c.in_ok-denied.ensures.kept) c.requires.at

pub add_let_in-requires-clause-base : goal.add_let_in-requires-clause-base
add_let_in-requires-clause-base c =
    let d0 = c.args.table.now in
    let d1 = c.where_passed.new.table in
    let d2 = c.without.new.table in
    ways_in_kept d0 d2 c.args.at c.args.base.now (keeps_then d0 d1 d2 c.in_ok-passed.ensures.kept c.in_ok-denied.ensures.kept) c.requires.at.scope c.requires.base

pub returns-clause-added : goal.returns-clause-added
returns-clause-added c =
    let w = c.args.at.wiring.now in
    let seat = seat_of c.args.at.seat in
    let i = seat.interface in
    let list = list_named seat.device.config i.input in
    let d0 = c.args.table.now in
    let d1 = c.where_passed.new.table in
    let d2 = c.without.new.table in
    let d3 = c.add_let_in.new.table in
    let p = c.in_ok-passed in
    let l = c.in_ok-denied in
    let scope = c.args.at.scope in
    let xs : Header → List Move = λ h. moves_in w seat (coming_in seat h) in
    same_lists d0 d3 scope (λ h. if passes (verdict list h) then xs h else Drop ∷ []) (moves_at w (Some seat)) c.args.ways.now.items c.add_let_in.new.ways.items (λ h. sym (opened (is_enabled i) (passes (verdict list h)) (xs h) (Drop ∷ []) (sym c.is_enabled.ensures ∙ c.if-not-is_enabled.false))) (let_in_added d0 d1 d2 d3 list c.args.at.form.input scope p.passed l.denied xs c.args.ways.now.items c.add_way-2.new.ways.items c.add_let_in.new.ways.items c.requires.at.form.input c.requires.at.scope p.ensures.set.below c.requires.ways p.ensures.kept l.ensures.kept p.ensures.set.exact l.ensures.set.exact c.in_ok-add_way-2.ensures c.in_ok-add_let_in.ensures.added)

pub returns-clause-kept : goal.returns-clause-kept
returns-clause-kept c =
    let d0 = c.args.table.now in
    let d1 = c.where_passed.new.table in
    let d2 = c.without.new.table in
    let d3 = c.add_let_in.new.table in
    keeps_then d0 d1 d3 c.in_ok-passed.ensures.kept (keeps_then d1 d2 d3 c.in_ok-denied.ensures.kept c.in_ok-add_let_in.ensures.kept)

pub add_way-requires-clause-headers : goal.add_way-requires-clause-headers
add_way-requires-clause-headers c = c.requires.at.scope

pub where_passed-requires-clause-given : goal.where_passed-requires-clause-given
where_passed-requires-clause-given c = c.requires.at.scope

pub without-requires-clause-first : goal.without-requires-clause-first
without-requires-clause-first c = kept_below c.args.table.now c.where_passed.new.table c.args.at.scope c.in_ok-passed.ensures.kept c.requires.at.scope

pub add_let_in-requires-clause-within : goal.add_let_in-requires-clause-within
add_let_in-requires-clause-within c h v i =
    let d0 = c.args.table.now in
    let d1 = c.where_passed.new.table in
    let d2 = c.without.new.table in
    let p = c.in_ok-passed in
    let j = (kept_set d1 d2 p.passed h c.in_ok-denied.ensures.kept p.ensures.set.below).0 i in
    (kept_set d0 d2 c.args.at.scope h (keeps_then d0 d1 d2 p.ensures.kept c.in_ok-denied.ensures.kept) c.requires.at.scope).1 ((p.ensures.set.exact h v).0 j).0
