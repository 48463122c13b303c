use Rattle.std.proofs.Common.{◌≡◌, ◌++◌, ◌≤◌, ◌*◌, ◌^◌, [], codes, take, map, flat_map, All}
use Rattle.report_groups.specs.declared.types.Change.TheVariants as change
use Rattle.view_core.specs.Kinds.{of_kind}
use Rattle.view_core.specs.ViewText.{loop_line}
use Rattle.view_core.proofs.text.append_loops_at.Given as goal

abbrev pub invariant-loop-entry : goal.invariant-loop-entry
invariant-loop-entry l = l.out.items ≡ l.initial.out.items ++ flat_map (loop_line l.names l.ingress) (of_kind (take l.entry-index l.groups) change.Loops)
