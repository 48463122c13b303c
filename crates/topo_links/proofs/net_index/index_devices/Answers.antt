use Rattle.std.proofs.Common.{sym, ap, subst, ◌∙◌, All, List, arith}
use denote.Ref.{Bor}
use Rattle.std.proofs.lemmas.List.{map-append}
use Rattle.std.proofs.lemmas.List.Elements.{All-push}
use Rattle.net_types.specs.declared.config.Loaded.{Loaded}
use Rattle.net_types.specs.declared.config.Interface.{Interface}
use Rattle.topo_links.specs.declared.by_name.ByName.{ByName}
use Rattle.topo_links.specs.ByName.{IsByName}
use Rattle.topo_links.specs.Check.{interface_name}
use Rattle.topo_links.specs.NetIndex.{interface_lists}
use Rattle.topo_links.proofs.Finds.{map_step}
use Rattle.topo_links.proofs.net_index.index_devices.Goals as goal

pub loop-device-preserved : goal.loop-device-preserved
loop-device-preserved c =
    let pushed = c.in_ok-push.ensures.items in
    record {
      lists = ap interface_lists pushed ∙ map-append (λ (b : ByName Interface). b.items.now) c.loop-device.found.items _ ∙ map_step (λ (l : Bor Loaded). l.now.config.interfaces) c.args.devices.now c.loop-device.device-index c.device-item.result (interface_lists c.loop-device.found.items) c.in_ok-index_device.field-0.items.now (omega arith) c.device-item.is c.loop-device.invariant.lists c.in_ok-index_device.ensures.items;
      each = subst (λ (bs : List (ByName Interface)). All (IsByName interface_name) bs) (sym pushed) (All-push (IsByName interface_name) c.loop-device.found.items _ c.loop-device.invariant.each c.in_ok-index_device.ensures.by_name);
    }
