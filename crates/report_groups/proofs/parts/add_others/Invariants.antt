use Rattle.std.proofs.Common.{◌≡◌, ◌||◌, ℕ, take}
use Rattle.std.specs.List.{list_any}
use Rattle.report_groups.specs.Values.{matches, is_in_part}
use Rattle.report_groups.proofs.parts.add_others.Given as goal

abbrev pub invariant-loop-pattern : goal.invariant-loop-pattern
invariant-loop-pattern l = (v : ℕ) → list_any (is_in_part v) l.parts.items ≡ (list_any (is_in_part v) l.fn.parts.items || list_any (matches v) (take l.pattern-index l.others))
