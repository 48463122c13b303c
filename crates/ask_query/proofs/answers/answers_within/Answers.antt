use Rattle.std.proofs.Common.{ℕ, ◌≡◌, ◌<◌, List, Some, length, get_or, slice_get, sym, subst}
use Rattle.std.proofs.lemmas.List.Elements.{All-get_or, Contains-get_or}
use Rattle.std.proofs.lemmas.Option.{get_or_from_slice_get}
use Rattle.net_types.specs.declared.question.Question.{Question}
use Rattle.net_types.specs.Questions.{IsAnswer}
use Rattle.net_view.specs.Borrowed.{world_of}
use Rattle.set_walk.proofs.SetLemmas.{keeps_then}
use Rattle.ask_query.specs.Slots.{AnswersNumber}
use Rattle.ask_query.proofs.SharedLemmas.{asked_kept}
use Rattle.ask_query.proofs.AnswerLemmas.{filter_kept}
use Rattle.ask_query.proofs.SlotLemmas.{zip_next}
use Rattle.ask_query.proofs.answers.answers_within.Goals as goal

pub breaking-requires-clause-asked : goal.breaking-requires-clause-asked
breaking-requires-clause-asked c = asked_kept c.args.table.now c.loop-number.table c.args.asked.now c.loop-number.invariant.kept c.requires.asked

pub breaking-requires-clause-filter : goal.breaking-requires-clause-filter
breaking-requires-clause-filter c =
    let questions : List Question = c.args.asked.now.questions.now in
    let numbers : List ℕ = c.args.numbers.now in
    let i = c.loop-number.number-index in
    let n : ℕ = get_or numbers i 0 in
    let within : n < length questions = All-get_or (λ m. m < length questions) numbers i 0 c.loop-number-test.true c.requires.numbers in
    let q : Question = get_or questions n c.index-asked-number.result in
    filter_kept c.args.table.now c.loop-number.table c.args.asked.now.domain q c.loop-number.invariant.kept c.requires.asked.domain (c.requires.asked.filters q (Contains-get_or questions n c.index-asked-number.result within))

pub loop-number-preserved : goal.loop-number-preserved
loop-number-preserved c =
    let w = world_of c.args.asked.now.net.now.world in
    let t = c.args.asked.now.ttl in
    let questions : List Question = c.args.asked.now.questions.now in
    let numbers : List ℕ = c.args.numbers.now in
    let i = c.loop-number.number-index in
    let n : ℕ = get_or numbers i 0 in
    let d : Question = c.index-asked-number.result in
    let q : Question = get_or questions n d in
    let made = c.in_ok-breaking.ensures in
    let y = c.answer_by.result in
    let right : IsAnswer w t q y = c.answer_by.ensures w t q made.set in
    record {
      kept = keeps_then c.args.table.now c.loop-number.table c.breaking.new.table c.loop-number.invariant.kept made.kept;
      walks = made.walks;
      answers = rw c.in_ok-push.ensures.items (zip_next (AnswersNumber w t questions) numbers c.loop-number.answers.items i y c.loop-number-test.true c.loop-number.invariant.answers (λ m there p at.
          let same : n ≡ m = get_or_from_slice_get numbers i m 0 there in
          let own : q ≡ p = get_or_from_slice_get questions n p d (subst (λ k. slice_get questions k ≡ Some p) (sym same) at) in
          subst (λ x. IsAnswer w t x y) own right));
    }
