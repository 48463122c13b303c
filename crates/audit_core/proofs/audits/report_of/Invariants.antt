use Rattle.audit_core.proofs.audits.report_of.Given as goal
use Rattle.std.proofs.Common.{[], take}
use Rattle.audit_core.specs.Audits.{Appends, lists_of}

abbrev pub invariant-loop-device : goal.invariant-loop-device
invariant-loop-device l = Appends (lists_of (take l.device-index l.devices)) [] l.text.items 0 l.count
