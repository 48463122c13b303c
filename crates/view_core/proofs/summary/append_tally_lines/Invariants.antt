use Rattle.std.proofs.Common.{◌≡◌, ◌++◌, ◌≤◌, ◌*◌, ◌^◌, [], codes, take, map, flat_map, All}
use Rattle.view_core.specs.ViewText.{tally_line}
use Rattle.view_core.proofs.summary.append_tally_lines.Given as goal

abbrev pub invariant-loop-tally : goal.invariant-loop-tally
invariant-loop-tally l = l.out.items ≡ l.initial.out.items ++ flat_map tally_line (take l.tally-index l.tallies)
