use Rattle.std.proofs.Common.{◌≡◌, take}
use Rattle.std.specs.Prelude.{flat_map}
use Rattle.topo_links.specs.Names.{add_names}
use Rattle.topo_links.specs.Table.{end_names}
use Rattle.net_load.proofs.numbering.add_table.Given as goal

abbrev pub invariant-loop-line : goal.invariant-loop-line
invariant-loop-line l = l.names ≡ add_names l.initial.names (flat_map (λ l. end_names l.ends) (take l.line-index l.line-items))
