use Rattle.std.proofs.Common.{subst, take_all, get_or, ◌∙◌, sym}
use Rattle.std.proofs.lemmas.List.{get_or_default}
use Rattle.cube_alg.specs.Stamps.{applied}
use Rattle.hdr_bits.specs.HeaderBits.{number}
use Rattle.net_types.specs.Moves.{send}
use Rattle.net_types.specs.World.{segment_of}
use Rattle.place_ways.specs.Adding.{AddsWays, ByOne, HasValue, Makes}
use Rattle.place_ways.proofs.SetLemmas.{keeps_same, keeps_then, kept_below}
use Rattle.place_ways.proofs.AddLemmas.{none_does, one_does}
use Rattle.place_ways.proofs.AmongLemmas.{stage_kept, told_value}
use Rattle.place_ways.proofs.link.add_listed.Goals as goal

pub loop-address-init : goal.loop-address-init
loop-address-init c = record {
  kept = keeps_same c.args.table.now;
  added = none_does _ c.args.table.now c.args.ways.now.ways.items c.requires.ways;
}

pub add_address-requires-clause-below : goal.add_address-requires-clause-below
add_address-requires-clause-below c = kept_below c.args.table.now c.loop-address.table c.args.function c.loop-address.invariant.kept c.requires.function.below

pub add_address-requires-clause-tells : goal.add_address-requires-clause-tells
add_address-requires-clause-tells c h v e =
    told_value c.args.table.now c.args.addresses.now c.args.function _ h c.requires.function v (sym (c.loop-address.invariant.kept.value c.args.function c.requires.function.below (number h)) ∙ e)

pub add_address-requires-clause-given : goal.add_address-requires-clause-given
add_address-requires-clause-given c = kept_below c.args.table.now c.loop-address.table c.args.given c.loop-address.invariant.kept c.requires.given

pub add_address-requires-clause-ways : goal.add_address-requires-clause-ways
add_address-requires-clause-ways c = c.loop-address.invariant.added.given

pub loop-address-preserved : goal.loop-address-preserved
loop-address-preserved c =
    let f = c.args.table.now in
    let g = c.loop-address.table in
    let k = c.add_address.new.table in
    let l = c.args.link in
    let xs = c.args.addresses.now in
    let i = c.loop-address.address-index in
    let one = get_or xs i 0 in
    let o = c.in_ok-add_address.ensures in
    record {
      kept = keeps_then f g k c.loop-address.invariant.kept o.kept;
      added = one_does (λ d h m. HasValue f c.args.function d h × Makes f c.args.given (λ q. send l.wiring.now l.place q.dst (applied l.stamp q) (segment_of l.wiring.now l.place)) h m) f g k _ xs i one c.args.ways.now.ways.items c.loop-address.ways.ways.items c.add_address.new.ways.ways.items c.loop-address-test.true (get_or_default xs i 0 one c.loop-address-test.true) (λ h v m. stage_kept f g c.args.function c.args.given one (number h) h _ c.loop-address.invariant.kept c.requires.function.below c.requires.given) c.loop-address.invariant.added o.added;
    }

pub returns-clause-added : goal.returns-clause-added
returns-clause-added c =
    let l = c.args.link in
    let f = c.args.table.now in
    subst (λ xs. AddsWays f c.loop-address.table (λ h m. ByOne (λ d. HasValue f c.args.function d h × Makes f c.args.given (λ q. send l.wiring.now l.place q.dst (applied l.stamp q) (segment_of l.wiring.now l.place)) h m) xs) c.args.ways.now.ways.items c.loop-address.ways.ways.items) (take_all c.loop-address.address-index c.args.addresses.now c.loop-address-test.false) c.loop-address.invariant.added
