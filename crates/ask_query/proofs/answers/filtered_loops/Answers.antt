use Rattle.std.proofs.Common.{sym, ◌∙◌}
use Rattle.std.proofs.lemmas.Result.{IfOk-weaker}
use Rattle.hdr_bits.specs.HeaderBits.{number}
use Rattle.hdr_bits.specs.CubeBits.{IsIn}
use Rattle.set_walk.proofs.SetLemmas.{keeps_then}
use Rattle.loop_search.proofs.BoundsLemmas.{bounded_loops}
use Rattle.loop_search.proofs.WholeLemmas.{whole_kept}
use Rattle.ask_query.proofs.answers.filtered_loops.Goals as goal

pub looping-requires-clause-net : goal.looping-requires-clause-net
looping-requires-clause-net c = whole_kept c.args.table.now c.both.new.table c.args.asked.now.net.now (keeps_then c.args.table.now c.filter_set.new.table c.both.new.table c.in_ok-filter.ensures.kept c.in_ok-domain.ensures.kept) c.requires.net

pub returns-clause-set : goal.returns-clause-set
returns-clause-set c =
    let q = c.args.question.now in
    let a = c.args.asked.now in
    IfOk-weaker c.looping.result _ _ (λ set made. record {
      below = made.below;
      exact = bounded_loops c.args.table.now c.filter_set.new.table c.both.new.table c.looping.new.table a.net.now a.bounds.now q.from a.ttl c.in_ok-filter.filter c.in-Some.bound c.in_ok-domain.domain set (λ h. IsIn q.filter (number h)) c.in_ok-filter.ensures.kept c.requires.sets c.requires.bounds (sym c.bound_at.ensures ∙ c.in-Some.is) c.in_ok-filter.ensures.set.exact c.in_ok-domain.ensures.set.exact made.exact;
    }) c.looping.ensures.set
