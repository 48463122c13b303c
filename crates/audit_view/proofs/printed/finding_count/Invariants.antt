use Rattle.std.proofs.Common.{◌≡◌, ◌*◌, ◌^◌, ◌≤◌, take, length}
use Rattle.std.specs.List.{sum_by}
use Rattle.audit_view.proofs.printed.finding_count.Given as goal

abbrev pub invariant-loop-one : goal.invariant-loop-one
invariant-loop-one l = record {
  counted : l.count ≡ sum_by (λ a. length a.findings) (take l.one-index l.audited);
  small : l.count ≤ 2 ^ 64 * l.one-index;
}
