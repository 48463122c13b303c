use Rattle.std.proofs.Common.{◌≡◌, map, take, ◌∷◌, []}
use Rattle.report_groups.proofs.groups.single_lists.Given as goal

abbrev pub invariant-loop-pattern : goal.invariant-loop-pattern
invariant-loop-pattern l = map (λ list. list.items) l.lists.items ≡ map (λ p. p ∷ []) (take l.pattern-index l.patterns)
