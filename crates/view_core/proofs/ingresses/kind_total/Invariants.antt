use Rattle.std.proofs.Common.{◌≡◌, ◌++◌, ◌≤◌, ◌*◌, ◌^◌, [], codes, take, map, flat_map, All}
use Rattle.view_core.specs.Ingresses.{kind_total}
use Rattle.view_core.proofs.ingresses.kind_total.Given as goal

abbrev pub invariant-loop-ingress : goal.invariant-loop-ingress
invariant-loop-ingress l = record {
  counted : l.groups ≡ kind_total (take l.ingress-index l.ingresses) l.kind;
  small : l.groups ≤ 2 ^ 64 * l.ingress-index;
}
