use Rattle.std.proofs.Common.{◌≡◌, drop}
use Rattle.topo_links.specs.Check.{table_fault}
use Rattle.topo_links.proofs.judge.check_lines.Given as goal

abbrev pub invariant-loop-line : goal.invariant-loop-line
invariant-loop-line l = table_fault l.old.devices.items.now l.new.devices.items.now l.lines ≡ table_fault l.old.devices.items.now l.new.devices.items.now (drop l.line-index l.lines)
