use Rattle.std.proofs.Common.{◌≡◌, drop}
use Rattle.topo_links.specs.Check.{own_table_fault}
use Rattle.topo_links.proofs.judge.check_own_lines.Given as goal

abbrev pub invariant-loop-line : goal.invariant-loop-line
invariant-loop-line l = own_table_fault l.own.devices.items.now l.other.devices.items.now l.lines ≡ own_table_fault l.own.devices.items.now l.other.devices.items.now (drop l.line-index l.lines)
