use Rattle.std.proofs.Common.{length}
use Rattle.incr_review.proofs.numbers.+fact_numbers.Given as goal

abbrev pub decreases-fact_numbers : goal.decreases-fact_numbers
decreases-fact_numbers l = length l.facts.now
