use Rattle.std.proofs.Common.{◌≡◌, ◌++◌, ◌≤◌, ◌*◌, ◌^◌, [], codes, take, map, flat_map, All}
use Rattle.view_core.specs.Ingresses.{group_count}
use Rattle.view_core.proofs.ingresses.group_count.Given as goal

abbrev pub invariant-loop-ingress : goal.invariant-loop-ingress
invariant-loop-ingress l = record {
  counted : l.groups ≡ group_count (take l.ingress-index l.ingresses);
  small : l.groups ≤ 2 ^ 64 * l.ingress-index;
}
