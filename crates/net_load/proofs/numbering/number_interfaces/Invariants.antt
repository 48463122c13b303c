use Rattle.std.proofs.Common.{◌≡◌, take, map}
use Rattle.net_load.specs.Numbering.{number_of}
use Rattle.net_load.proofs.numbering.number_interfaces.Given as goal

abbrev pub invariant-loop-interface : goal.invariant-loop-interface
invariant-loop-interface l = l.numbers.items ≡ map (λ i. number_of l.names i.name) (take l.interface-index l.interfaces)
