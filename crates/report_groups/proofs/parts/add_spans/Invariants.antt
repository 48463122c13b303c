use Rattle.std.proofs.Common.{◌≡◌, ◌||◌, ℕ, take}
use Rattle.std.specs.List.{list_any}
use Rattle.report_groups.specs.Values.{covers, is_in_part}
use Rattle.report_groups.proofs.parts.add_spans.Given as goal

abbrev pub invariant-loop-span : goal.invariant-loop-span
invariant-loop-span l = (v : ℕ) → list_any (is_in_part v) l.parts.items ≡ (list_any (is_in_part v) l.fn.parts.items || list_any (covers v) (take l.span-index l.spans))
