use Rattle.std.proofs.Common.{◌≡◌, ◌++◌, ◌≤◌, ◌*◌, ◌^◌, [], codes, take, map, flat_map, All}
use Rattle.view_core.specs.ViewText.{ingress_text}
use Rattle.view_core.proofs.text.append_ingresses.Given as goal

abbrev pub invariant-loop-ingress : goal.invariant-loop-ingress
invariant-loop-ingress l = l.out.items ≡ l.initial.out.items ++ flat_map (ingress_text l.names) (take l.ingress-index l.ingresses)
