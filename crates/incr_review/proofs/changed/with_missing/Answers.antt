use Rattle.std.proofs.Common.{take_all, get_or, subst, sym}
use Rattle.std.proofs.lemmas.List.{get_or_default}
use Rattle.set_walk.proofs.SetLemmas.{keeps_same, keeps_then, kept_below}
use Rattle.set_walk.specs.declared.step.Step.TheVariants as step
use Rattle.set_walk.specs.declared.step.Way.{Way}
use Rattle.place_ways.proofs.AddLemmas.{given_kept}
use Rattle.incr_review.specs.Changed.{HaveOthers}
use Rattle.incr_review.proofs.ChangedLemmas.{others_more, others_none, wider_same, wider_then}
use Rattle.incr_review.proofs.changed.with_missing.Goals as goal

pub loop-i-init : goal.loop-i-init
loop-i-init c =
    let f = c.args.table.now in
    record { kept = keeps_same f; below = c.requires.set; wider = wider_same f c.args.set; others = others_none f f c.args.set c.args.others.now }

pub with_alone-requires-clause-way : goal.with_alone-requires-clause-way
with_alone-requires-clause-way c =
    let ws = c.args.ways.now in
    let i = c.loop-i.i in
    let d : Way = record { step = step.Drop; headers = 0 } in
    let x = get_or ws i d in
    kept_below c.args.table.now c.loop-i.table x.headers c.loop-i.invariant.kept (c.requires.ways x (i, c.loop-i-test.true, sym (get_or_default ws i d x c.loop-i-test.true))).below

pub with_alone-requires-clause-others : goal.with_alone-requires-clause-others
with_alone-requires-clause-others c = given_kept c.args.table.now c.loop-i.table c.args.others.now c.loop-i.invariant.kept c.requires.others

pub loop-i-preserved : goal.loop-i-preserved
loop-i-preserved c =
    let ws = c.args.ways.now in
    let others = c.args.others.now in
    let i = c.loop-i.i in
    let d : Way = record { step = step.Drop; headers = 0 } in
    let x = get_or ws i d in
    let l = c.loop-i-test.true in
    let f = c.args.table.now in
    let e = c.loop-i.table in
    let g = c.with_alone.new.table in
    let old = c.loop-i.invariant in
    let o = c.in_ok-all.ensures in
    record {
      kept = keeps_then f e g old.kept o.kept;
      below = o.below;
      wider = wider_then f e g c.args.set c.loop-i.all c.in_ok-all.all old.wider o.wider;
      others = others_more f e g c.loop-i.all c.in_ok-all.all ws others i x old.kept c.requires.ways c.requires.others l (get_or_default ws i d x l) o.wider old.others o.other;
    }

pub returns-clause-others : goal.returns-clause-others
returns-clause-others c =
    let l = c.loop-i in
    subst (λ ys. HaveOthers c.args.table.now l.table l.all ys c.args.others.now) (take_all l.i c.args.ways.now c.loop-i-test.false) l.invariant.others
