use Rattle.std.proofs.Common.{◌<◌, ◌∙◌, ap, length, subst, sym}
use Rattle.std.specs.List.{AllZip}
use Rattle.std.proofs.lemmas.Slice.Zip.{AllZip-long}
use Rattle.net_types.specs.Questions.{IsAnswer}
use Rattle.net_view.specs.Borrowed.{world_of}
use Rattle.rollout.specs.Touched.{IsTouchedSo}
use Rattle.rollout.proofs.TouchedLemmas.{all_answered}
use Rattle.rollout.proofs.failing.failure_after.Goals as goal

pub asked_again-requires : goal.asked_again-requires
asked_again-requires g c =
    let old = world_of c.args.step.networks.old in
    let new = world_of c.args.step.networks.new in
    ap length c.deref.ensures.value ∙ AllZip-long (IsTouchedSo old new) c.args.questions.now c.in_ok-touched.touched.items c.in_ok-touched.ensures.touched

pub first_failure-requires : goal.first_failure-requires
first_failure-requires g c =
    let old = world_of c.args.step.networks.old in
    let new = world_of c.args.step.networks.new in
    let answers = c.in_ok-answers.answers.items in
    let all = all_answered old new c.args.ttl c.args.questions.now c.in_ok-touched.touched.items c.deref.result.now c.deref-3.result.now c.in_ok-asked.asked.items c.deref-2.result.now c.in_ok-told.told.items answers
    c.in_ok-touched.ensures.touched c.requires.hold c.deref.ensures.value c.in_ok-asked.ensures c.deref-2.ensures.value c.in_ok-told.ensures c.deref-3.ensures.value c.in_ok-answers.ensures in
    let long = AllZip-long (IsAnswer new c.args.ttl) c.args.questions.now answers all in
    subst (λ n. n < 4294967296) (sym (ap length c.deref-4.ensures.value ∙ long)) c.requires.few

pub returns-clause-failure : goal.returns-clause-failure
returns-clause-failure g c =
    let old = world_of c.args.step.networks.old in
    let new = world_of c.args.step.networks.new in
    let answers = c.in_ok-answers.answers.items in
    let all = all_answered old new c.args.ttl c.args.questions.now c.in_ok-touched.touched.items c.deref.result.now c.deref-3.result.now c.in_ok-asked.asked.items c.deref-2.result.now c.in_ok-told.told.items answers
    c.in_ok-touched.ensures.touched c.requires.hold c.deref.ensures.value c.in_ok-asked.ensures c.deref-2.ensures.value c.in_ok-told.ensures c.deref-3.ensures.value c.in_ok-answers.ensures in
    c.first_failure.ensures new c.args.ttl c.args.questions.now (subst (AllZip (IsAnswer new c.args.ttl) c.args.questions.now) (sym c.deref-4.ensures.value) all)
