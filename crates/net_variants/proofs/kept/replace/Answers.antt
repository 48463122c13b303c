use Rattle.std.proofs.Common.{◌∙◌, ◌==◌, sym, ap, position, List, subst}
use Rattle.net_types.specs.declared.network.NetDevice.{NetDevice}
use Rattle.net_types.specs.declared.network.Network.{Network}
use Rattle.live_network.specs.Live.{IsLive}
use Rattle.live_network.proofs.NetworkLemmas.{position_within, put_nowhere}
use Rattle.net_variants.proofs.kept.replace.Goals as goal

pub returns-in_default-clause-network : goal.returns-in_default-clause-network
returns-in_default-clause-network c =
    let y = c.args.change.now in
    put_nowhere c.args.kept.now.network y (sym (c.first_named.ensures ∙ ap (λ (ds : List NetDevice). position (λ d. d.name == y.name) ds) c.as_slice-devices.ensures) ∙ c.in_default.is)

pub returns-in_default-clause-live : goal.returns-in_default-clause-live
returns-in_default-clause-live c =
    let y = c.args.change.now in
    subst (λ (n : Network). IsLive (record { network = n; links = c.args.links.now }) c.args.kept.now.live)
    (put_nowhere c.args.kept.now.network y (sym (c.first_named.ensures ∙ ap (λ (ds : List NetDevice). position (λ d. d.name == y.name) ds) c.as_slice-devices.ensures) ∙ c.in_default.is)) c.requires

pub replace_in-requires-clause-first : goal.replace_in-requires-clause-first
replace_in-requires-clause-first c =
    let y = c.args.change.now in
    sym (c.first_named.ensures ∙ ap (λ (ds : List NetDevice). position (λ d. d.name == y.name) ds) c.as_slice-devices.ensures) ∙ c.in-Some.is

pub replace_in-requires-clause-within : goal.replace_in-requires-clause-within
replace_in-requires-clause-within c =
    let y = c.args.change.now in
    position_within c.args.kept.now.network y c.in-Some.position (sym (c.first_named.ensures ∙ ap (λ (ds : List NetDevice). position (λ d. d.name == y.name) ds) c.as_slice-devices.ensures) ∙ c.in-Some.is)
