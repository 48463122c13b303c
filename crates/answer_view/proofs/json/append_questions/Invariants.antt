use Rattle.std.proofs.Common.{◌≡◌, ◌++◌, codes, take, flat_map}
use Rattle.answer_view.specs.ShownJson.{question_json}
use Rattle.answer_view.proofs.json.append_questions.Given as goal

abbrev pub invariant-loop-one : goal.invariant-loop-one
invariant-loop-one l = l.out.items ≡ l.initial.out.items ++ flat_map (λ y. codes ",\n" ++ question_json y) (take l.one-index l.rest)
