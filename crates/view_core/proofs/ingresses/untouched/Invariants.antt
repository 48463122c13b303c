use Rattle.std.proofs.Common.{◌≡◌, ◌++◌, ◌≤◌, ◌*◌, ◌^◌, [], codes, take, map, flat_map, All}
use Rattle.view_core.specs.Ingresses.{untouched}
use Rattle.view_core.proofs.ingresses.untouched.Given as goal

abbrev pub invariant-loop-ingress : goal.invariant-loop-ingress
invariant-loop-ingress l = record {
  counted : l.count ≡ untouched (take l.ingress-index l.ingresses);
  small : l.count ≤ l.ingress-index;
}
