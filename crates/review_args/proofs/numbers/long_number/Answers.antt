use Rattle.std.proofs.Common.{arith, rules, ◌∙◌}
use Rattle.review_args.proofs.Digits.{parsed}
use Rattle.review_args.proofs.numbers.long_number.Goals as goal

pub returns : goal.returns
returns c = c.ok.ensures.value ∙ parsed c.args.word.now _ c.parse.ensures.value.0 (omega arith) (search rules)
