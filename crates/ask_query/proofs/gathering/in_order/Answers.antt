use Rattle.std.proofs.Common.{◌≡◌, ◌<◌, List, Option, Some, None, length, slice_get, sym, ap, subst, ◌∙◌}
use Rattle.std.proofs.lemmas.Option.{slice_get-get_or}
use Rattle.net_types.specs.declared.question.Answer.{Answer}
use Rattle.net_types.specs.Questions.{IsAnswer}
use Rattle.ask_query.proofs.SlotLemmas.{zip_next}
use Rattle.ask_query.proofs.gathering.in_order.Goals as goal

pub unreachable-requires : goal.unreachable-requires
unreachable-requires c =
    let i = c.loop-i.i in
    let known : List (Option Answer) = c.args.known.now in
    let within : i < length known = subst (λ m. i < m) (sym c.requires.count) c.loop-i-test.true in
    let k = c.requires.known i c.loop-i-test.true in
    let there : slice_get known i ≡ Some None = slice_get-get_or known i None within ∙ ap Some c.in_default.is in
    let both : Some None ≡ Some (Some k.answer) = sym there ∙ k.there in
    absurd cc

pub loop-i-preserved : goal.loop-i-preserved
loop-i-preserved c w t r =
    let i = c.loop-i.i in
    let known : List (Option Answer) = c.args.known.now in
    let within : i < length known = subst (λ m. i < m) (sym c.requires.count) c.loop-i-test.true in
    let there : slice_get known i ≡ Some (Some c.in-Some.answer) = slice_get-get_or known i None within ∙ ap Some c.in-Some.is in
    rw c.in_ok-push.ensures.items (zip_next (IsAnswer w t) c.args.questions.now c.loop-i.answers.items i c.in-Some.answer c.loop-i-test.true (c.loop-i.invariant w t r) (r i c.in-Some.answer there))
