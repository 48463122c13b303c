use Rattle.std.proofs.Common.{ap, ◌∙◌, position}
use Rattle.net_types.specs.declared.network.NetDevice.{NetDevice}
use Rattle.net_types.specs.Routes.{same_text}
use Rattle.ask_query.specs.Devices.{stands_under}
use Rattle.ask_query.proofs.devices.PlaceIndex.position.Goals as goal

pub returns : goal.returns
returns c =
    c.copied.ensures ∙ c.get.ensures.value
    ∙ ap (stands_under c.self.inside.positions) c.as_bytes.ensures
    ∙ c.self.invariant c.args.name.now
    ∙ ap (λ (d : NetDevice). position (λ i. same_text i.name c.args.name.now) d.config.interfaces) c.self.view_is
