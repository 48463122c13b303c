use Rattle.std.proofs.Common.{◌<◌, subst, sym, take, ◌+◌}
use Rattle.set_walk.proofs.SetLemmas.{keeps_then}
use Rattle.set_walk.proofs.ScopeLemmas.{beyond_kept}
use Rattle.difference_reach.proofs.ReachLemmas.{numbers_kept, reach_kept}
use Rattle.cube_diagram.specs.Functions.{count_of}
use Rattle.rollout.specs.Touched.{AreTouched, IsTouchedSo, MayTouch}
use Rattle.rollout.proofs.TouchedLemmas.{touched_more}
use Rattle.rollout.proofs.touched.touched_in.Goals as goal

pub is_touched-requires : goal.is_touched-requires
is_touched-requires c = numbers_kept c.args.table.now c.loop-question.table c.args.reach.now c.loop-question.invariant.kept c.requires

pub loop-question-preserved : goal.loop-question-preserved
loop-question-preserved c =
    let f = c.args.table.now in
    let g = c.loop-question.table in
    let i = c.loop-question.question-index in
    let questions = c.args.questions.now in
    let known = c.loop-question.invariant in
    record {
      kept = keeps_then f g c.is_touched.new.table known.kept c.in_ok-is_touched.ensures.kept;
      touched = λ old new scope may.
          let below = subst (λ n. n < count_of f) may.0.told_for may.0.numbers.scope in
          let later : MayTouch old new g scope c.args.reach.now = (reach_kept old new f g scope c.args.reach.now known.kept may.0, beyond_kept f g scope known.kept below old new may.1) in
          let one = subst (λ q. IsTouchedSo old new q c.in_ok-is_touched.field-0) c.question-item.is (c.in_ok-is_touched.ensures.stands old new scope later) in
          subst (AreTouched old new (take (i + 1) questions)) (sym c.in_ok-push.ensures.items)
          (touched_more old new questions c.loop-question.touched.items i c.question-item.result c.in_ok-is_touched.field-0 c.loop-question-test.true (known.touched old new scope may) one);
    }
