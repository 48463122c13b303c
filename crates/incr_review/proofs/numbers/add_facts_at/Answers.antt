use Rattle.std.proofs.Common.{◌++◌, ap, ◌∙◌}
use Rattle.incr_review.proofs.FactLemmas.{facts_past, facts_there}
use Rattle.incr_review.proofs.numbers.add_facts_at.Goals as goal

pub returns-then-index-lists : goal.returns-then-index-lists
returns-then-index-lists c = facts_past c.args.lists.now c.args.index c.args.facts.now.items c.if-index-lists.true

pub returns : goal.returns
returns c =
    c.in_ok-extend_from_slice.ensures.items
    ∙ ap (λ zs. c.args.facts.now.items ++ zs) (facts_there c.args.lists.now c.args.index c.index-lists-index.result c.deref.result.now c.if-index-lists.false c.deref.ensures.value)
