use Rattle.std.proofs.Common.{◌≡◌, ℕ, take}
use Rattle.std.specs.List.{list_any}
use Rattle.report_groups.specs.Values.{covers}
use Rattle.report_groups.proofs.spans.merged.Given as goal

abbrev pub invariant-loop-span : goal.invariant-loop-span
invariant-loop-span l = (v : ℕ) → list_any (covers v) l.merged.items ≡ list_any (covers v) (take l.span-index l.spans)
