use Rattle.std.proofs.Common.{◌≡◌, ◌++◌, ◌≤◌, ◌*◌, ◌^◌, [], codes, take, map, flat_map, All}
use Rattle.view_core.specs.ViewText.{ingress_loops}
use Rattle.view_core.proofs.text.append_loop_lines.Given as goal

abbrev pub invariant-loop-ingress : goal.invariant-loop-ingress
invariant-loop-ingress l = l.out.items ≡ l.initial.out.items ++ flat_map (ingress_loops l.names) (take l.ingress-index l.ingresses)
