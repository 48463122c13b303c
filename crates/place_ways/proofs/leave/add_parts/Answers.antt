use Rattle.std.proofs.Common.{subst, take_all}
use Rattle.cube_alg.specs.Stamps.{applied}
use Rattle.net_forms.proofs.FormLemmas.{seat_kept}
use Rattle.place_ways.specs.declared.parts.Part.{Part}
use Rattle.place_ways.specs.Adding.{AddsWays, Makes}
use Rattle.place_ways.specs.Leaving.{LeavesByOne, leaves}
use Rattle.place_ways.proofs.SetLemmas.{keeps_same, keeps_then, kept_set}
use Rattle.place_ways.proofs.AddLemmas.{none_does, one_does}
use Rattle.place_ways.proofs.PartLemmas.{part_among, part_at, part_is, stamped_kept}
use Rattle.place_ways.proofs.leave.add_parts.Goals as goal

pub loop-part-init : goal.loop-part-init
loop-part-init c = record {
  kept = keeps_same c.args.table.now;
  added = none_does _ c.args.table.now c.args.ways.now.ways.items c.requires.ways;
}

pub add_passed-requires-clause-out : goal.add_passed-requires-clause-out
add_passed-requires-clause-out c =
    let l = c.args.leaving in
    seat_kept c.args.table.now c.loop-part.table l.at.seat.device.now.config l.out.seat.interface.now l.out.form c.loop-part.invariant.kept c.requires.out

pub add_passed-requires-clause-given : goal.add_passed-requires-clause-given
add_passed-requires-clause-given c = (stamped_kept c.args.table.now c.loop-part.table c.args.parts.now c.loop-part.invariant.kept c.requires.parts (part_at c.args.parts.now c.loop-part.part-index) (part_among c.args.parts.now c.loop-part.part-index c.loop-part-test.true)).0

pub add_passed-requires-clause-stamp : goal.add_passed-requires-clause-stamp
add_passed-requires-clause-stamp c = (c.requires.parts (part_at c.args.parts.now c.loop-part.part-index) (part_among c.args.parts.now c.loop-part.part-index c.loop-part-test.true)).1

pub add_passed-requires-clause-ways : goal.add_passed-requires-clause-ways
add_passed-requires-clause-ways c = c.loop-part.invariant.added.given

pub loop-part-preserved : goal.loop-part-preserved
loop-part-preserved c =
    let f = c.args.table.now in
    let l = c.loop-part in
    let k = c.add_passed.new.table in
    let xs = c.args.parts.now in
    let one = part_at xs l.part-index in
    let o = c.in_ok-add_passed.ensures in
    record {
      kept = keeps_then f l.table k l.invariant.kept o.kept;
      added = one_does (λ (p : Part) h m. Makes f p.headers (λ q. leaves c.args.leaving q (applied p.stamp q)) h m) f l.table k _ xs l.part-index one c.args.ways.now.ways.items l.ways.ways.items c.add_passed.new.ways.ways.items c.loop-part-test.true (part_is xs l.part-index c.loop-part-test.true) (λ h v m. let z = kept_set f l.table one.headers h l.invariant.kept (c.requires.parts one (part_among xs l.part-index c.loop-part-test.true)).0 in (λ x. (z.0 x.0, x.1), λ x. (z.1 x.0, x.1))) l.invariant.added o.added;
    }

pub returns-clause-added : goal.returns-clause-added
returns-clause-added c =
    let f = c.args.table.now in
    subst (λ ps. AddsWays f c.loop-part.table (LeavesByOne f ps c.args.leaving) c.args.ways.now.ways.items c.loop-part.ways.ways.items) (take_all c.loop-part.part-index c.args.parts.now c.loop-part-test.false) c.loop-part.invariant.added
