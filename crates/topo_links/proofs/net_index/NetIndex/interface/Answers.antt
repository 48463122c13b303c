use Rattle.std.proofs.Common.{sym, ap, ◌∙◌, find}
use Rattle.std.specs.Prelude.{Some, None, slice_get, option_and_then}
use Rattle.topo_links.specs.ByName.{is_named, firsts_of}
use Rattle.topo_links.specs.Check.{host_of, interface_name}
use Rattle.topo_links.proofs.Finds.{firsts_with, found_in}
use Rattle.topo_links.proofs.net_index.NetIndex.interface.Goals as goal

pub returns-in_default : goal.returns-in_default
returns-in_default c = ap (option_and_then (λ l. find (is_named interface_name c.args.name.now) l.config.interfaces)) (firsts_with host_of c.args.self.now.devices c.requires.devices c.args.device.now None (sym c.in_default.is ∙ c.place.ensures))

pub returns : goal.returns
returns c =
    c.interface_of.ensures
    ∙ ap (λ ls. option_and_then (find (is_named interface_name c.args.name.now)) (slice_get ls c.in-Some.place)) c.requires.interfaces
    ∙ found_in (λ l. l.config.interfaces) (find (is_named interface_name c.args.name.now)) (firsts_of c.args.self.now.devices) c.in-Some.place
    ∙ ap (option_and_then (λ l. find (is_named interface_name c.args.name.now) l.config.interfaces)) (firsts_with host_of c.args.self.now.devices c.requires.devices c.args.device.now (Some c.in-Some.place) (sym c.in-Some.is ∙ c.place.ensures))
