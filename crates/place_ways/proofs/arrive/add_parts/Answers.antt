use Rattle.std.proofs.Common.{subst, take_all}
use Rattle.place_ways.specs.declared.parts.Part.{Part}
use Rattle.place_ways.specs.Adding.{AddsWays, MakesBehind}
use Rattle.place_ways.specs.Parts.{MakesBehindOne}
use Rattle.place_ways.proofs.SetLemmas.{keeps_same, keeps_then}
use Rattle.place_ways.proofs.AddLemmas.{given_kept, none_does, one_does}
use Rattle.place_ways.proofs.ArriveLemmas.{behind_kept}
use Rattle.place_ways.proofs.PartLemmas.{part_among, part_at, part_is, stamped_kept}
use Rattle.place_ways.proofs.arrive.add_parts.Goals as goal

pub loop-part-init : goal.loop-part-init
loop-part-init c = record {
  kept = keeps_same c.args.table.now;
  added = none_does _ c.args.table.now c.args.ways.now.items c.requires.ways;
}

pub add_behind-requires-clause-base_given : goal.add_behind-requires-clause-base_given
add_behind-requires-clause-base_given c = given_kept c.args.table.now c.loop-part.table c.args.base.now c.loop-part.invariant.kept c.requires.base

pub add_behind-requires-clause-given : goal.add_behind-requires-clause-given
add_behind-requires-clause-given c = (stamped_kept c.args.table.now c.loop-part.table c.args.parts.now c.loop-part.invariant.kept c.requires.parts (part_at c.args.parts.now c.loop-part.part-index) (part_among c.args.parts.now c.loop-part.part-index c.loop-part-test.true)).0

pub add_behind-requires-clause-stamp : goal.add_behind-requires-clause-stamp
add_behind-requires-clause-stamp c = (c.requires.parts (part_at c.args.parts.now c.loop-part.part-index) (part_among c.args.parts.now c.loop-part.part-index c.loop-part-test.true)).1

pub add_behind-requires-clause-ways : goal.add_behind-requires-clause-ways
add_behind-requires-clause-ways c = c.loop-part.invariant.added.given

pub loop-part-preserved : goal.loop-part-preserved
loop-part-preserved c =
    let f = c.args.table.now in
    let l = c.loop-part in
    let k = c.add_behind.new.table in
    let xs = c.args.parts.now in
    let one = part_at xs l.part-index in
    let o = c.in_ok-add_behind.ensures in
    record {
      kept = keeps_then f l.table k l.invariant.kept o.kept;
      added = one_does (λ (p : Part) h m. MakesBehind f p.headers p.stamp c.args.base.now h m) f l.table k _ xs l.part-index one c.args.ways.now.items l.ways.items c.add_behind.new.ways.items c.loop-part-test.true (part_is xs l.part-index c.loop-part-test.true) (λ h v m. behind_kept f l.table one.headers one.stamp c.args.base.now h m l.invariant.kept (c.requires.parts one (part_among xs l.part-index c.loop-part-test.true)).0 c.requires.base) l.invariant.added o.added;
    }

pub returns-clause-added : goal.returns-clause-added
returns-clause-added c =
    let f = c.args.table.now in
    subst (λ ps. AddsWays f c.loop-part.table (MakesBehindOne f ps c.args.base.now) c.args.ways.now.items c.loop-part.ways.items) (take_all c.loop-part.part-index c.args.parts.now c.loop-part-test.false) c.loop-part.invariant.added
