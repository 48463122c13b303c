use Rattle.std.proofs.Common.{◌≡◌, ◌∙◌, ◌==◌, sym, ap, position, List, None, Some}
use Rattle.net_forms.proofs.FindLemmas.{not_found}
use Rattle.net_types.specs.declared.network.NetDevice.{NetDevice}
use Rattle.live_network.proofs.NetworkLemmas.{position_within, put_nowhere}
use Rattle.live_network.proofs.network.replace_in.Goals as goal

pub returns-in_default-clause-network : goal.returns-in_default-clause-network
returns-in_default-clause-network c =
    put_nowhere c.args.network.now c.args.device (sym (c.first_named.ensures ∙ ap (λ (ds : List NetDevice). position (λ d. d.name == c.args.device.name) ds) c.as_slice-devices.ensures) ∙ c.in_default.is)

pub returns-in_default-clause-before : goal.returns-in_default-clause-before
returns-in_default-clause-before c =
    sym (not_found (λ (d : NetDevice). d.name == c.args.device.name) c.args.network.now.devices (sym c.in_default.is ∙ (c.first_named.ensures ∙ ap (λ (ds : List NetDevice). position (λ d. d.name == c.args.device.name) ds) c.as_slice-devices.ensures)))

pub replace_found-requires-clause-first : goal.replace_found-requires-clause-first
replace_found-requires-clause-first c = sym (c.first_named.ensures ∙ ap (λ (ds : List NetDevice). position (λ d. d.name == c.args.device.name) ds) c.as_slice-devices.ensures) ∙ c.in-Some.is

pub replace_found-requires-clause-within : goal.replace_found-requires-clause-within
replace_found-requires-clause-within c =
    position_within c.args.network.now c.args.device c.in-Some.position (sym (c.first_named.ensures ∙ ap (λ (ds : List NetDevice). position (λ d. d.name == c.args.device.name) ds) c.as_slice-devices.ensures) ∙ c.in-Some.is)
