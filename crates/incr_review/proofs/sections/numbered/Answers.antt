use Rattle.std.proofs.lemmas.Result.{IfOk-weaker}
use Rattle.incr_review.proofs.SectionLemmas.{numbered_is}
use Rattle.incr_review.proofs.sections.numbered.Goals as goal

pub returns-clause-exact : goal.returns-clause-exact
returns-clause-exact c =
    IfOk-weaker c.first_of.result _ _ (λ whole exact. numbered_is c.args.table.now c.on_set.new.table c.first_of.new.self c.args.function c.args.set c.args.number c.in_ok-inside.inside whole c.in_ok-inside.ensures.kept c.requires.function c.in_ok-inside.ensures.exact exact) c.first_of.ensures.exact
