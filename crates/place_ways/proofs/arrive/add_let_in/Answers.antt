use Rattle.std.proofs.Common.{if◌then◌else◌, subst, sym}
use Rattle.net_types.specs.Moves.{coming_in, moves_in}
use Rattle.net_types.specs.Translation.{from_outside}
use Rattle.net_view.specs.Borrowed.{seat_of}
use Rattle.set_walk.specs.Sets.{InSet}
use Rattle.place_ways.specs.Adding.{AddsWays}
use Rattle.place_ways.specs.Parts.{AreParts, AreStamped, MakesBehindOne}
use Rattle.place_ways.proofs.SetLemmas.{keeps_then, kept_set}
use Rattle.place_ways.proofs.AddLemmas.{given_kept, moves_kept}
use Rattle.place_ways.proofs.ArriveLemmas.{arrived}
use Rattle.place_ways.proofs.PartLemmas.{stamped}
use Rattle.place_ways.proofs.arrive.add_let_in.Goals as goal

pub parts_of-requires-clause-translation : goal.parts_of-requires-clause-translation
parts_of-requires-clause-translation c =
    let r = c.requires.at.device.rules in
    record { rule_below = r.outside.below; rule = r.outside.exact; outer_below = r.outer_outside.below; outer = r.outer_outside.exact }

pub add_parts-requires-clause-base : goal.add_parts-requires-clause-base
add_parts-requires-clause-base c = given_kept c.args.table.now c.parts_of.new.table c.args.base.now c.in_ok-parts.ensures.kept c.requires.base.given

pub add_parts-requires-clause-parts : goal.add_parts-requires-clause-parts
add_parts-requires-clause-parts c =
    subst (AreStamped c.parts_of.new.table) (sym c.deref.ensures.value) (stamped _ c.parts_of.new.table _ c.in_ok-parts.parts.items c.in_ok-parts.ensures.parts)

pub add_parts-requires-clause-ways : goal.add_parts-requires-clause-ways
add_parts-requires-clause-ways c = given_kept c.args.table.now c.parts_of.new.table c.args.ways.now.items c.in_ok-parts.ensures.kept c.requires.ways

pub returns-clause-added : goal.returns-clause-added
returns-clause-added c =
    let s = c.args.at in
    let seat = seat_of s.seat in
    let f = c.args.table.now in
    let g = c.parts_of.new.table in
    let k = c.add_parts.new.table in
    let e = c.in_ok-parts.ensures.kept in
    let r = c.requires.at in
    let parts = c.in_ok-parts.parts.items in
    let base = c.args.base.now in
    let moves = moves_in s.wiring.now seat in
    let come : AreParts g (InSet f c.args.given) (coming_in seat) parts = subst (λ b. AreParts g (InSet f c.args.given) (λ h. if b then from_outside seat.device.config.nat h else h) parts) c.is_outside-translated.ensures c.in_ok-parts.ensures.parts in
    arrived f g k c.args.given s.scope (coming_in seat) parts base moves c.args.ways.now.items c.add_parts.new.ways.items e c.requires.ways come (moves_kept f g s.scope moves base e r.scope c.requires.base.given c.requires.base.moves) (λ h v i. (kept_set f g s.scope (coming_in seat h) e r.scope).1 (r.comes h v (c.requires.within h v i))) (subst (λ ps. AddsWays g k (MakesBehindOne g ps base) c.args.ways.now.items c.add_parts.new.ways.items) c.deref.ensures.value c.in_ok-add_parts.ensures.added)

pub returns-clause-kept : goal.returns-clause-kept
returns-clause-kept c = keeps_then c.args.table.now c.parts_of.new.table c.add_parts.new.table c.in_ok-parts.ensures.kept c.in_ok-add_parts.ensures.kept
