use Rattle.std.proofs.Common.{◌≡◌, ℕ, List, sym, subst, ◌∙◌}
use Rattle.ask_query.specs.Slots.{AnswersNumber, AnswerNumbers, numbers_of}
use Rattle.ask_query.proofs.SlotLemmas.{as_long}
use Rattle.ask_query.proofs.gathering.put_slot.Goals as goal

pub put_all-requires-clause-count : goal.put_all-requires-clause-count
put_all-requires-clause-count g c =
    let w = g.K.Asking.world in
    let t = g.K.Asking.ttl in
    let questions = g.K.Asking.questions in
    let own : numbers_of g.K.Asking.slots c.args.given.now ≡ c.numbers_in.result.now = (λ i. numbers_of (c.requires.slots i) (sym c.slot.ensures i)) ∙ sym c.numbers_in.ensures in
    as_long (AnswersNumber w t questions) c.numbers_in.result.now c.answers.result.now (subst (λ (ns : List ℕ). AnswerNumbers w t questions ns c.answers.result.now) own c.answers.ensures)
