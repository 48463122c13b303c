use Rattle.std.proofs.Common.{take_all, get_or, length, refl, ap, subst, ◌∙◌, ◌<◌, ◌≤◌}
use Rattle.std.specs.Prelude.{Contains}
use Rattle.std.proofs.lemmas.List.{get_or_default}
use Rattle.set_walk.proofs.SetLemmas.{keeps_same, keeps_then}
use Rattle.place_ways.specs.Devices.{place_of}
use Rattle.incr_review.specs.Changed.{AgreeAtNumbers, IsKnownNumber, after_at, before_at}
use Rattle.incr_review.proofs.FirstLemmas.{at_index}
use Rattle.incr_review.proofs.ChangedLemmas.{agree_from, given_later, known_more, no_agreement, numbers_more}
use Rattle.incr_review.proofs.changed.changed_headers.Goals as goal
use Rattle.incr_review.proofs.changed.changed_headers.Goals.{then-not-is_known+in_ok-set, else-not-is_known}

pub loop-i-init : goal.loop-i-init
loop-i-init c =
    let f = c.args.table.now in
    record { kept = keeps_same f; below = c.nothing-set.ensures.below; agree = no_agreement f f c.nothing-set.result c.args.change }

pub with_changed-requires-clause-before : goal.with_changed-requires-clause-before
with_changed-requires-clause-before c = given_later c.args.table.now c.loop-i.table c.args.change.lists.now _ c.loop-i.invariant.kept c.requires.before

pub with_changed-requires-clause-after : goal.with_changed-requires-clause-after
with_changed-requires-clause-after c = given_later c.args.table.now c.loop-i.table c.args.change.lists.now _ c.loop-i.invariant.kept c.requires.after

pub loop-i-preserved : goal.loop-i-preserved
loop-i-preserved c =
    let change = c.args.change in
    let numbers = change.device.now.numbers in
    let xs = c.as_slice-numbers.result.now in
    let same = c.as_slice-numbers.ensures in
    let i = c.loop-i.i in
    let n = get_or xs i 0 in
    let short = c.loop-i-test.true in
    let l = subst (λ ys. i < length ys) same short in
    let is = get_or_default xs i 0 n short ∙ ap (λ ys. get_or ys i n) same in
    let f = c.args.table.now in
    let e = c.loop-i.table in
    let old = c.loop-i.invariant in
    let p = place_of change.device.now n in
    elim c.if-not-is_known.branch [
      | then-not-is_known+in_ok-set w ↦ (
          let g = w.with_changed.new.table in
          let o = w.in_ok-set.ensures in
          let one = agree_from f e g w.in_ok-set.set (before_at change p) (after_at change p) old.kept (λ u q. c.requires.before p u q) (λ u q. c.requires.after p u q) o.agree in
          rw (w.table-is, w.set-is) record {
            kept = keeps_then f e g old.kept o.kept;
            below = o.below;
            agree = numbers_more f e g change numbers i n c.loop-i.set w.in_ok-set.set l is o.wider old.agree one;
          })
      | else-not-is_known w ↦ (
          let known = subst (λ ys. IsKnownNumber change ys i) same (w.if-not-is_known.ensures refl) in
          rw (w.table-is, w.set-is) record {
            kept = old.kept;
            below = old.below;
            agree = known_more f e change numbers i n c.loop-i.set l is (at_index numbers i n l is) known old.agree;
          })
    ]

pub returns-clause-agree : goal.returns-clause-agree
returns-clause-agree c =
    let l = c.loop-i in
    let numbers = c.args.change.device.now.numbers in
    subst (λ ys. AgreeAtNumbers c.args.table.now l.table l.set c.args.change (Contains ys)) (take_all l.i numbers (subst (λ ys. length ys ≤ l.i) c.as_slice-numbers.ensures c.loop-i-test.false)) l.invariant.agree
