use Rattle.std.proofs.Common.{◌≡◌, take}
use Rattle.topo_links.specs.Names.{add_names}
use Rattle.net_load.proofs.numbering.add_texts.Given as goal

abbrev pub invariant-loop-text : goal.invariant-loop-text
invariant-loop-text l = l.names ≡ add_names l.initial.names (take l.text-index l.texts)
