use Rattle.std.proofs.Common.{◌≡◌, take, map}
use Rattle.topo_links.specs.Names.{add_names}
use Rattle.net_load.proofs.numbering.add_config.Given as goal

abbrev pub invariant-loop-interface : goal.invariant-loop-interface
invariant-loop-interface l = l.names ≡ add_names l.initial.names (map (λ i. i.name) (take l.interface-index l.interface-items))
