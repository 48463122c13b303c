use Rattle.std.proofs.Common.{◌<◌, ℕ, All, List, length, sym, subst, ◌∙◌}
use Rattle.net_view.specs.Borrowed.{world_of}
use Rattle.ask_query.specs.Slots.{numbers_of}
use Rattle.ask_query.proofs.SharedLemmas.{asked_kept, numbers_as}
use Rattle.ask_query.proofs.answering.Answering.walked_in.Goals as goal

pub answers_within-requires-clause-asked : goal.answers_within-requires-clause-asked
answers_within-requires-clause-asked g c = asked_kept g.K.Base.base c.args.table.now c.self.inside.asked.now c.requires c.self.invariant.0

pub answers_within-requires-clause-numbers : goal.answers_within-requires-clause-numbers
answers_within-requires-clause-numbers g c =
    let a = c.self.inside.asked.now in
    subst (λ (ns : List ℕ). All (λ n. n < length a.questions.now) ns) (sym c.numbers_in-numbers.ensures) (c.self.invariant.0.below c.args.slot)

pub of-requires : goal.of-requires
of-requires g c =
    let a = c.self.inside.asked.now in
    let named = c.self.invariant.2 in
    numbers_as (world_of a.net.now.world) g.K.Asking.world a.ttl g.K.Asking.ttl a.questions.now g.K.Asking.questions c.numbers_in-numbers.result.now (numbers_of g.K.Asking.slots c.args.slot) c.in_ok-answers.answers.items
    (sym named.of_world) (sym named.of_ttl) (sym named.of_questions)
    (c.numbers_in-numbers.ensures ∙ λ i. numbers_of (sym named.of_slots i) c.args.slot)
    c.in_ok-answers.ensures.answers
