use Rattle.std.proofs.Common.{◌<◌, ◌∙◌, ap, length, subst, sym}
use Rattle.std.proofs.lemmas.Slice.Zip.{AllZip-long}
use Rattle.net_types.specs.Questions.{IsAnswer}
use Rattle.net_view.specs.Borrowed.{world_of}
use Rattle.rollout.proofs.failing.failure_in.Goals as goal

pub first_failure-requires : goal.first_failure-requires
first_failure-requires g c =
    let w = world_of c.args.world in
    let long = AllZip-long (IsAnswer w c.args.ttl) c.args.questions.now c.in_ok-answers.answers.items c.in_ok-answers.ensures in
    subst (λ n. n < 4294967296) (sym (ap length c.deref.ensures.value ∙ long)) c.requires.few
