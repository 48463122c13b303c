use Rattle.std.proofs.Common.{◌≡◌, ◌*◌, ◌^◌, ◌≤◌, take}
use Rattle.audit_view.specs.Shown.{total}
use Rattle.audit_view.proofs.groups.total.Given as goal

abbrev pub invariant-loop-one : goal.invariant-loop-one
invariant-loop-one l = record {
  counted : l.count ≡ total l.group (take l.one-index l.audited);
  small : l.count ≤ 2 ^ 64 * l.one-index;
}
