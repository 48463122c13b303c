use Rattle.std.proofs.Common.{◌≡◌, ◌++◌, ◌≤◌, ◌*◌, ◌^◌, [], codes, take, map, flat_map, All}
use Rattle.view_core.specs.ViewText.{place_line}
use Rattle.view_core.proofs.summary.append_places.Given as goal

abbrev pub invariant-loop-ingress : goal.invariant-loop-ingress
invariant-loop-ingress l = l.out.items ≡ l.initial.out.items ++ flat_map (place_line l.names) (take l.ingress-index l.ingresses)
