use Rattle.std.proofs.Common.{◌≡◌, map, take}
use Rattle.incr_review.specs.FactNumbers.{facts_of_pair}
use Rattle.incr_review.proofs.FactLemmas.{items_of}
use Rattle.incr_review.proofs.numbers.lists_by.Given as goal

abbrev pub invariant-loop-pair : goal.invariant-loop-pair
invariant-loop-pair l = map items_of l.lists.items ≡ map (facts_of_pair l.first l.second) (take l.pair-index l.pairs)
