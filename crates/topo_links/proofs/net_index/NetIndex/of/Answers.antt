use Rattle.std.proofs.Common.{ap, ◌∙◌, map}
use denote.Ref.{Bor}
use Rattle.net_types.specs.declared.config.Loaded.{Loaded}
use Rattle.topo_links.proofs.Finds.{map_map}
use Rattle.topo_links.proofs.net_index.NetIndex.of.Goals as goal

pub returns-clause-net : goal.returns-clause-net
returns-clause-net c = record {
  devices = c.in_ok-devices.ensures.by_name;
  interfaces = c.in_ok-interfaces.ensures.lists ∙ ap (map (λ (r : Bor Loaded). r.now.config.interfaces)) c.as_slice.ensures.value ∙ map_map (λ (r : Bor Loaded). r.now) (λ (l : Loaded). l.config.interfaces) c.in_ok-devices.devices.firsts.items;
  each = c.in_ok-interfaces.ensures.each;
}
