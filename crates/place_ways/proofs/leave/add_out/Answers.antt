use Rattle.std.proofs.Common.{◌≡◌, if◌then◌else◌, subst, sym}
use Rattle.net_forms.proofs.FormLemmas.{seat_kept}
use Rattle.net_types.specs.Moves.{going_out}
use Rattle.net_types.specs.Translation.{from_inside}
use Rattle.net_view.specs.Borrowed.{seat_of}
use Rattle.set_walk.specs.Sets.{InSet}
use Rattle.place_ways.specs.Adding.{AddsWays}
use Rattle.place_ways.specs.Leaving.{LeavesByOne, leaves}
use Rattle.place_ways.specs.Parts.{AreParts, AreStamped}
use Rattle.place_ways.proofs.SetLemmas.{keeps_then}
use Rattle.place_ways.proofs.AddLemmas.{given_kept}
use Rattle.place_ways.proofs.PartLemmas.{by_parts, stamped}
use Rattle.place_ways.proofs.leave.add_out.Goals as goal

pub parts_of-requires-clause-translation : goal.parts_of-requires-clause-translation
parts_of-requires-clause-translation c =
    let r = c.requires.at.device.rules in
    record { rule_below = r.inside.below; rule = r.inside.exact; outer_below = r.outer_inside.below; outer = r.outer_inside.exact }

pub add_parts-requires-clause-out : goal.add_parts-requires-clause-out
add_parts-requires-clause-out c =
    let l = c.args.leaving in
    seat_kept c.args.table.now c.parts_of.new.table l.at.seat.device.now.config l.out.seat.interface.now l.out.form c.in_ok-parts.ensures.kept c.requires.out

pub add_parts-requires-clause-parts : goal.add_parts-requires-clause-parts
add_parts-requires-clause-parts c =
    subst (AreStamped c.parts_of.new.table) (sym c.deref.ensures.value) (stamped _ c.parts_of.new.table _ c.in_ok-parts.parts.items c.in_ok-parts.ensures.parts)

pub add_parts-requires-clause-ways : goal.add_parts-requires-clause-ways
add_parts-requires-clause-ways c = given_kept c.args.table.now c.parts_of.new.table c.args.ways.now.ways.items c.in_ok-parts.ensures.kept c.requires.ways

pub returns-clause-added : goal.returns-clause-added
returns-clause-added c =
    let l = c.args.leaving in
    let seat = seat_of l.at.seat in
    let out = seat_of l.out.seat in
    let f = c.args.table.now in
    let g = c.parts_of.new.table in
    let k = c.add_parts.new.table in
    let parts = c.in_ok-parts.parts.items in
    let go : AreParts g (InSet f c.args.given) (going_out seat out) parts = subst (λ b. AreParts g (InSet f c.args.given) (λ h. if b then from_inside seat.device.config.nat h else h) parts) c.goes_outside-translated.ensures c.in_ok-parts.ensures.parts in
    by_parts (going_out seat out) f g k c.args.given parts (λ h q m. leaves l h q ≡ m) c.args.ways.now.ways.items c.add_parts.new.ways.ways.items c.in_ok-parts.ensures.kept c.requires.ways go (subst (λ ps. AddsWays g k (LeavesByOne g ps l) c.args.ways.now.ways.items c.add_parts.new.ways.ways.items) c.deref.ensures.value c.in_ok-add_parts.ensures.added)

pub returns-clause-kept : goal.returns-clause-kept
returns-clause-kept c = keeps_then c.args.table.now c.parts_of.new.table c.add_parts.new.table c.in_ok-parts.ensures.kept c.in_ok-add_parts.ensures.kept
