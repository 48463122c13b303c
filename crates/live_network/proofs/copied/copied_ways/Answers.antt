use Rattle.std.proofs.Common.{◌+◌, get_or, subst, sym, take, take_all}
use Rattle.std.proofs.lemmas.List.{get_or_default}
use Rattle.set_walk.specs.declared.step.Step.TheVariants.{Drop}
use Rattle.set_walk.specs.declared.step.Way.{Way}
use Rattle.set_walk.proofs.SetLemmas.{keeps_then}
use Rattle.live_network.specs.Copied.{AreWayCopies}
use Rattle.live_network.proofs.CopyLemmas.{ways_more}
use Rattle.live_network.proofs.copied.copied_ways.Goals as goal

pub copied_way-requires-clause-way : goal.copied_way-requires-clause-way
copied_way-requires-clause-way c =
    let ways = c.args.ways.now in
    let i = c.loop-way.way-index in
    let x : Way = get_or ways i (record { step = Drop; headers = 0 }) in
    (c.requires.ways x (i, c.loop-way-test.true, sym (get_or_default ways i (record { step = Drop; headers = 0 }) x c.loop-way-test.true))).below

pub loop-way-preserved : goal.loop-way-preserved
loop-way-preserved c =
    let l = c.loop-way in
    let s = c.args.source.now in
    let ways = c.args.ways.now in
    let u = c.copied_way.new.into.table in
    let o = c.in_ok-copy.ensures in
    let x : Way = get_or ways l.way-index (record { step = Drop; headers = 0 }) in
    record {
      copies = subst (AreWayCopies s u (take (l.way-index + 1) ways)) (sym c.in_ok-push.ensures.items) (ways_more s l.into.table u ways l.way-index x l.all.items c.in_ok-copy.copy o.kept c.loop-way-test.true (get_or_default ways l.way-index (record { step = Drop; headers = 0 }) x c.loop-way-test.true) l.invariant.copies o.way);
      known = o.known;
      kept = keeps_then c.args.into.now.table l.into.table u l.invariant.kept o.kept;
    }

pub returns-clause-copies : goal.returns-clause-copies
returns-clause-copies c =
    let l = c.loop-way in
    subst (λ xs. AreWayCopies c.args.source.now l.into.table xs l.all.items) (take_all l.way-index c.args.ways.now c.loop-way-test.false) l.invariant.copies
