use Rattle.std.proofs.lemmas.Result.{IfOk-weaker}
use Rattle.incr_review.proofs.FactLemmas.{facts_kept}
use Rattle.incr_review.proofs.parts.parts_by.Goals as goal

pub returns-clause-parts : goal.returns-clause-parts
returns-clause-parts c =
    IfOk-weaker c.parts_of.result _ _
    (λ r parts. parts c.args.facts.now (facts_kept c.args.table.now c.fact_numbers.new.table c.args.facts.now c.in_ok-numbers.ensures.kept c.requires.facts) c.in_ok-numbers.ensures.numbers)
    c.parts_of.ensures.parts
