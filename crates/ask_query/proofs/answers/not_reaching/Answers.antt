use Rattle.std.proofs.lemmas.Result.{IfOk-weaker}
use Rattle.hdr_bits.specs.HeaderBits.{number}
use Rattle.hdr_bits.specs.CubeBits.{IsIn}
use Rattle.indexmap.specs.IndexMap.{get}
use Rattle.net_types.specs.World.{same_place}
use Rattle.net_view.specs.Borrowed.{world_of}
use Rattle.set_walk.proofs.SetLemmas.{keeps_then, kept_below}
use Rattle.net_types.specs.Questions.{ReachesNamed}
use Rattle.ask_query.proofs.AnswerLemmas.{without_those, walks_kept}
use Rattle.ask_query.proofs.answers.not_reaching.Goals as goal

pub returns-clause-set : goal.returns-clause-set
returns-clause-set c =
    let q = c.args.question.now in
    let w = world_of c.args.asked.now.net.now.world in
    IfOk-weaker c.without.result _ _ (λ set made. record {
      below = made.below;
      exact = without_those c.reaching.new.table c.filter_set.new.table c.without.new.table c.in_ok-those.those c.in_ok-filter.filter set (ReachesNamed w c.args.asked.now.ttl q.from q.to) (λ h. IsIn q.filter (number h)) c.in_ok-filter.ensures.kept c.in_ok-those.ensures.set.below c.in_ok-those.ensures.set.exact c.in_ok-filter.ensures.set.exact made.exact;
    }) c.without.ensures.set

pub returns-clause-walks : goal.returns-clause-walks
returns-clause-walks c =
    let w = world_of c.args.asked.now.net.now.world in
    let k = keeps_then c.reaching.new.table c.filter_set.new.table c.without.new.table c.in_ok-filter.ensures.kept c.without.ensures.kept in
    IfOk-weaker c.without.result _ _ (λ set made. walks_kept w c.args.asked.now.ttl c.reaching.new.table c.without.new.table c.args.asked.now.domain (get same_place c.reaching.new.walks) k (kept_below c.args.table.now c.reaching.new.table c.args.asked.now.domain c.in_ok-those.ensures.kept c.requires.asked.domain) c.in_ok-those.ensures.walks) c.without.ensures.set
