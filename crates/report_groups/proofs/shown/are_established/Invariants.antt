use Rattle.std.proofs.Common.{◌≡◌, ℕ, ◌<◌}
use Rattle.std.specs.List.{list_any}
use Rattle.report_groups.specs.Shown.{is_established_as}
use Rattle.report_groups.specs.Values.{matches}
use Rattle.report_groups.proofs.shown.are_established.Given as goal

abbrev pub invariant-loop-flags : goal.invariant-loop-flags
invariant-loop-flags l = (v : ℕ) → v < l.flags → list_any (matches v) l.patterns ≡ is_established_as l.set v
