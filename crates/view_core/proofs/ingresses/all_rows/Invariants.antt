use Rattle.std.proofs.Common.{◌≡◌, ◌++◌, ◌≤◌, ◌*◌, ◌^◌, [], codes, take, map, flat_map, All}
use Rattle.view_core.specs.Ingresses.{all_rows}
use Rattle.view_core.proofs.ingresses.all_rows.Given as goal

abbrev pub invariant-loop-ingress : goal.invariant-loop-ingress
invariant-loop-ingress l = record {
  counted : l.rows ≡ all_rows (take l.ingress-index l.ingresses);
  small : l.rows ≤ 2 ^ 64 * l.ingress-index;
}
