use Rattle.std.proofs.Common.{◌≡◌, ◌++◌, map, take}
use Rattle.incr_review.specs.Facts.{fact_of_end, fact_of_visitor}
use Rattle.incr_review.proofs.facts.facts_of.Given as goal

abbrev pub invariant-loop-end : goal.invariant-loop-end
invariant-loop-end l = l.facts.items ≡ map fact_of_end (take l.end-index l.end-items)

abbrev pub invariant-loop-visitor : goal.invariant-loop-visitor
invariant-loop-visitor l = l.facts.items ≡ map fact_of_end l.walked.ends.items ++ map fact_of_visitor (take l.visitor-index l.visitor-items)
