use Rattle.std.proofs.Common.{◌≡◌, ℕ, ◌+◌, ◌<◌, List, [], ◌∷◌, ◌++◌, length, get_or, map, take, sym, ap, ◌∙◌}
use Rattle.std.specs.Prelude.{Option, None}
use Rattle.std.proofs.lemmas.List.{take_more, map-append}
use Rattle.net_types.specs.declared.question.Answer.{Answer}
use Rattle.net_types.specs.declared.question.Answer.TheVariants.{Holds}
use Rattle.answer_view.proofs.answered.none_before.Goals as goal

abbrev nothing : Answer → Option Answer
nothing a = None

none_more : (xs : List Answer) (i : ℕ) → i < length xs → map nothing (take i xs) ++ None ∷ [] ≡ map nothing (take (i + 1) xs)
none_more xs i l = sym (ap (map nothing) (take_more xs i Holds l) ∙ map-append nothing (take i xs) (get_or xs i Holds ∷ []))

pub loop-answer-preserved : goal.loop-answer-preserved
loop-answer-preserved c =
    c.in_ok-push.ensures.items ∙ ap (λ x. x ++ None ∷ []) c.loop-answer.invariant ∙ none_more c.args.after.now c.loop-answer._answer-index c.loop-answer-test.true
