use Rattle.std.proofs.Common.{◌≡◌, map, All}
use Rattle.report_groups.specs.Drafts.{shown}
use Rattle.report_groups.specs.Entries.{IsEntry}
use Rattle.report_groups.proofs.groups.finish.Given as goal

abbrev pub invariant-loop-draft : goal.invariant-loop-draft
invariant-loop-draft l = (map (λ e. e.group) l.entries.items ≡ map shown l.yielded) × All IsEntry l.entries.items
