use Rattle.std.proofs.Common.{◌≡◌, take}
use Rattle.topo_links.specs.Names.{add_names}
use Rattle.net_load.specs.Numbering.{folder_names}
use Rattle.net_load.proofs.numbering.add_folder.Given as goal

abbrev pub invariant-loop-loaded : goal.invariant-loop-loaded
invariant-loop-loaded l = l.names ≡ add_names l.initial.names (folder_names (take l.loaded-index l.folder))
