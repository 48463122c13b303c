use Rattle.std.proofs.Common.{◌≡◌, ◌++◌, map, drop}
use Rattle.std.specs.Prelude.{decimal}
use Rattle.ios_print.specs.Tail.{tail}
use Rattle.ios_print.proofs.entries.append_ports.Given as goal

abbrev pub invariant-loop-port : goal.invariant-loop-port
invariant-loop-port l = l.out.items ++ tail (map decimal (drop l.port-index l.ports)) ≡ l.initial.out.items ++ tail (map decimal l.ports)
