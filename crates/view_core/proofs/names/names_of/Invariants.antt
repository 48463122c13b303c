use Rattle.std.proofs.Common.{◌≡◌, [], map}
use Rattle.topo_links.specs.Names.{add_names}
use Rattle.view_core.specs.Names.{all_names}
use Rattle.view_core.proofs.names.names_of.Given as goal

abbrev pub invariant-loop-line : goal.invariant-loop-line
invariant-loop-line l = l.names ≡ add_names [] (all_names (map (λ line. line.now) l.yielded))
