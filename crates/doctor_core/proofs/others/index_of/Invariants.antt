use Rattle.std.proofs.Common.{◌≡◌, [], filter, map, take, Global}
use Rattle.std.specs.Prelude.{string_bytes}
use Rattle.topo_links.specs.Names.{add_names}
use Rattle.doctor_core.specs.Folders.{is_other}
use Rattle.doctor_core.proofs.others.index_of.Given as goal

abbrev pub invariant-loop-name : goal.invariant-loop-name
invariant-loop-name l = l.others ≡ add_names [] (filter is_other (map (string_bytes {Z = Global}) (take l.name-index l.names)))
