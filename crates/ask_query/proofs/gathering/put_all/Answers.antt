use Rattle.std.proofs.Common.{ℕ, ◌<◌, All, List, Option, Some, length, get_or, slice_set, take, take_all, sym, subst, ◌∙◌}
use Rattle.std.proofs.lemmas.List.{length-set}
use Rattle.std.proofs.lemmas.List.Elements.{All-get_or, All-more, All-weaker}
use Rattle.std.proofs.lemmas.Option.{slice_get-get_or}
use Rattle.net_types.specs.declared.question.Answer.{Answer}
use Rattle.net_types.specs.declared.question.Answer.TheVariants as answer
use Rattle.ask_query.specs.Slots.{AnswersNumber, IsKnown}
use Rattle.ask_query.proofs.SlotLemmas.{known_put, known_kept, right_put, zip_at}
use Rattle.ask_query.proofs.gathering.put_all.Goals as goal

pub loop-i-preserved : goal.loop-i-preserved
loop-i-preserved c =
    let i = c.loop-i.i in
    let test = c.loop-i-test.true in
    let numbers : List ℕ = c.args.numbers.now in
    let answers : List Answer = c.args.answers.now in
    let number : ℕ = get_or numbers i 0 in
    let a : Answer = get_or answers i answer.Holds in
    let known : List (Option Answer) = c.loop-i.known.items in
    let within : number < length known = subst (λ m. number < m) (sym c.loop-i.invariant.count) (All-get_or (λ n. n < length c.args.known.now.items) numbers i 0 test c.requires.below) in
    record {
      count = length-set known number (Some a) ∙ c.loop-i.invariant.count;
      right = λ w t questions all r. right_put known number a within w t questions (zip_at (AnswersNumber w t questions) numbers answers i number a all (slice_get-get_or numbers i 0 test) (slice_get-get_or answers i answer.Holds (subst (λ m. i < m) c.requires.count test))) (c.loop-i.invariant.right w t questions all r);
      kept = λ n k. known_kept known number a within n (c.loop-i.invariant.kept n k);
      put = All-more (IsKnown (slice_set known number (Some a))) numbers i 0 test (All-weaker (IsKnown known) (IsKnown (slice_set known number (Some a))) (λ n k. known_kept known number a within n k) (take i numbers) c.loop-i.invariant.put) (known_put known number a within);
    }

pub returns-clause-put : goal.returns-clause-put
returns-clause-put c = subst (All (IsKnown c.loop-i.known.items)) (take_all c.loop-i.i c.args.numbers.now c.loop-i-test.false) c.loop-i.invariant.put
