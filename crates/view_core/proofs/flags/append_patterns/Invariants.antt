use Rattle.std.proofs.Common.{◌≡◌, ◌++◌, codes, take, flat_map}
use Rattle.view_core.specs.FieldWords.{pattern_flags}
use Rattle.view_core.proofs.flags.append_patterns.Given as goal

abbrev pub invariant-loop-pattern : goal.invariant-loop-pattern
invariant-loop-pattern l = l.out.items ≡ l.initial.out.items ++ flat_map (λ p. codes "," ++ pattern_flags p) (take l.pattern-index l.rest)
