use Rattle.std.proofs.Common.{◌≡◌, [], take}
use Rattle.std.specs.List.{flat_map}
use Rattle.topo_links.specs.Names.{add_names}
use Rattle.doctor_warnings.specs.Told.{line_words}
use Rattle.doctor_warnings.proofs.configs.words_of.Given as goal

abbrev pub invariant-loop-line : goal.invariant-loop-line
invariant-loop-line l = l.names ≡ add_names [] (flat_map (line_words l.bytes) (take l.line-index l.told))
