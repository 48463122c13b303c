use Rattle.std.proofs.Common.{List, sym, subst}
use Rattle.hdr_bits.specs.HeaderBits.{number}
use Rattle.hdr_bits.specs.CubeBits.{IsIn}
use Rattle.indexmap.specs.IndexMap.{get}
use Rattle.net_types.specs.World.{same_place}
use Rattle.net_view.specs.Borrowed.{world_of}
use Rattle.set_walk.specs.declared.ends.OutcomeSet.{OutcomeSet}
use Rattle.set_walk.specs.Outcomes.{AreEndsBelow}
use Rattle.set_walk.specs.Sets.{IsSetOf}
use Rattle.set_walk.proofs.SetLemmas.{keeps_then, kept_below}
use Rattle.ask_query.specs.Reaching.{EndsNamed}
use Rattle.ask_query.proofs.AnswerLemmas.{reach_set, walks_kept, ends_of_labels, ends_kept, filter_kept, walk_added}
use Rattle.loop_search.proofs.WholeLemmas.{is_within}
use Rattle.ask_query.proofs.answers.reaching.Goals as goal

pub ending-requires : goal.ending-requires
ending-requires c = record { ends = subst (AreEndsBelow c.args.table.now) (sym c.deref.ensures.value) (c.requires.walks c.args.question.now.from c.in-Some.walk.now (sym c.in-Some.ensures.value)).below }

pub returns-in-Some-clause-set : goal.returns-in-Some-clause-set
returns-in-Some-clause-set c =
    let f = c.args.table.now in
    let q = c.args.question.now in
    let known = c.requires.walks q.from c.in-Some.walk.now (sym c.in-Some.ensures.value) in
    record {
      below = c.in_ok-set.ensures.set.below;
      exact = reach_set (world_of c.args.asked.now.net.now.world) c.args.asked.now.ttl q f c.ending.new.table c.args.asked.now.domain c.in_ok-set.set c.in-Some.walk.now.ends.items c.requires.filter known (subst (λ (xs : List OutcomeSet). IsSetOf c.ending.new.table c.in_ok-set.set (λ h. IsIn q.filter (number h) × EndsNamed f xs q.to h)) c.deref.ensures.value c.in_ok-set.ensures.set.exact);
    }

pub returns-in-Some-clause-walks : goal.returns-in-Some-clause-walks
returns-in-Some-clause-walks c = walks_kept (world_of c.args.asked.now.net.now.world) c.args.asked.now.ttl c.args.table.now c.ending.new.table c.args.asked.now.domain (get same_place c.args.walks.now) c.in_ok-set.ensures.kept c.requires.asked.domain c.requires.walks

pub labels-requires-clause-net : goal.labels-requires-clause-net
labels-requires-clause-net c = c.requires.asked.net.ways

pub labels-requires-clause-within : goal.labels-requires-clause-within
labels-requires-clause-within c = is_within c.args.table.now c.args.asked.now.net.now c.args.asked.now.domain c.requires.asked.net

pub ending-requires-2 : goal.ending-requires-2
ending-requires-2 c = record { ends = subst (AreEndsBelow c.labels.new.table) (sym c.deref-2.ensures.value) c.in_ok-ends.ensures.labels.below }

pub returns-clause-set : goal.returns-clause-set
returns-clause-set c =
    let f = c.args.table.now in
    let g = c.labels.new.table in
    let w = world_of c.args.asked.now.net.now.world in
    let q = c.args.question.now in
    let k = c.in_ok-ends.ensures.kept in
    let ends = ends_of_labels w c.args.asked.now.ttl q.from f g c.args.asked.now.domain c.in_ok-ends.ends.items k c.requires.asked.domain c.in_ok-ends.ensures.labels in
    record {
      below = c.in_ok-set-2.ensures.set.below;
      exact = reach_set w c.args.asked.now.ttl q g c.ending-2.new.table c.args.asked.now.domain c.in_ok-set-2.set c.in_ok-ends.ends.items (filter_kept f g c.args.asked.now.domain q k c.requires.asked.domain c.requires.filter) ends (subst (λ (xs : List OutcomeSet). IsSetOf c.ending-2.new.table c.in_ok-set-2.set (λ h. IsIn q.filter (number h) × EndsNamed g xs q.to h)) c.deref-2.ensures.value c.in_ok-set-2.ensures.set.exact);
    }

pub returns-clause-walks : goal.returns-clause-walks
returns-clause-walks c =
    let f = c.args.table.now in
    let g = c.labels.new.table in
    let e = c.ending-2.new.table in
    let w = world_of c.args.asked.now.net.now.world in
    let q = c.args.question.now in
    let k = c.in_ok-ends.ensures.kept in
    let j = c.in_ok-set-2.ensures.kept in
    let below = kept_below f g c.args.asked.now.domain k c.requires.asked.domain in
    let ends = ends_of_labels w c.args.asked.now.ttl q.from f g c.args.asked.now.domain c.in_ok-ends.ends.items k c.requires.asked.domain c.in_ok-ends.ensures.labels in
    walk_added w c.args.asked.now.ttl e c.args.asked.now.domain q.from (record { ends = c.in_ok-ends.ends }) (get same_place c.args.walks.now) (get same_place c.insert.new.self)
    (walks_kept w c.args.asked.now.ttl f e c.args.asked.now.domain (get same_place c.args.walks.now) (keeps_then f g e k j) c.requires.asked.domain c.requires.walks)
    (ends_kept w c.args.asked.now.ttl q.from g e c.args.asked.now.domain c.in_ok-ends.ends.items j below ends)
    c.in_ok-insert.ensures.updates.0
