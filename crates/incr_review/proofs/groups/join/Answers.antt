use Rattle.std.proofs.Common.{inr, sym, subst, length, List, ◌<◌}
use Rattle.incr_review.specs.declared.groups.Group.{Group}
use Rattle.incr_review.proofs.GroupLemmas.{widened}
use Rattle.incr_review.proofs.groups.join.Goals as goal

pub either-requires-clause-first : goal.either-requires-clause-first
either-requires-clause-first c =
    let i = c.in-Some.index in
    c.requires.groups c.index.result.now (i, subst (λ (xs : List Group). i < length xs) c.deref.ensures.value c.in-Some.ensures.within, sym c.index.ensures)

pub returns-clause-joined : goal.returns-clause-joined
returns-clause-joined c =
    let o = c.in_ok-headers.ensures in
    inr (widened c.args.table.now c.either.new.table c.args.region.now c.args.groups.now.items c.deref.result.now c.in-Some.index c.in_ok-headers.headers c.index.result.now c.index_mut.result.now c.deref.ensures.value c.in-Some.ensures c.index.ensures c.index_mut.ensures.value o.set.below o.set.exact)
