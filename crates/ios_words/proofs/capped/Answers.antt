use Rattle.std.proofs.Common.{arith, ◌∙◌}
use Rattle.ios_words.proofs.Numbers.{capped_more, digits_more}
use Rattle.ios_words.proofs.capped.Goals as goal

pub loop-b-preserved : goal.loop-b-preserved
loop-b-preserved c = record {
  digits = digits_more c.args.word.now c.loop-b.b-index (omega arith) (omega arith) (omega arith) ∙ c.loop-b.invariant.digits;
  value = c.min-value.ensures ∙ capped_more c.args.word.now c.loop-b.b-index _ _ (omega arith) (omega arith) (omega arith) c.from-digit.ensures c.loop-b.invariant.value;
}
