use Rattle.std.proofs.Common.{◌≡◌, ◌∙◌, ◌==◌, Some, ap, sym, subst, List, position, slice_get, length, get_or, refl}
use Rattle.std.proofs.lemmas.Option.{slice_get_read}
use Rattle.net_types.specs.declared.network.NetDevice.{NetDevice}
use Rattle.net_types.specs.World.{World}
use Rattle.net_view.specs.Borrowed.{world_of}
use Rattle.live_network.specs.Live.{IsLive}
use Rattle.live_network.proofs.NetworkLemmas.{position_within}
use Rattle.rollout.proofs.ChangeLemmas.{step_replaced, step_same}
use Rattle.rollout.proofs.touched.replaced.Goals as goal

pub returns-in_default-clause-live : goal.returns-in_default-clause-live
returns-in_default-clause-live c =
    let s = c.args.step in
    let y = s.change.now in
    let none = sym c.in_default.is ∙ (c.position_named.ensures ∙ ap (λ (ds : List NetDevice). position (λ d. d.name == y.name) ds) c.as_slice-devices.ensures) in
    subst (λ (w : World). IsLive w c.args.live.now) (step_same (world_of s.networks.old) (world_of s.networks.new) y c.requires.step.network c.requires.step.links none) c.requires.live

pub returns-clause-live : goal.returns-clause-live
returns-clause-live c =
    let s = c.args.step in
    let y = s.change.now in
    let old = world_of s.networks.old in
    let i = c.in-Some.position in
    let x = c.index-devices-position.result in
    let first : position (λ (d : NetDevice). d.name == y.name) old.network.devices ≡ Some i = sym (c.position_named.ensures ∙ ap (λ (ds : List NetDevice). position (λ d. d.name == y.name) ds) c.as_slice-devices.ensures) ∙ c.in-Some.is in
    let is : x ≡ get_or old.network.devices i x = c.index-devices-position.is ∙ ap (λ (ds : List NetDevice). get_or ds i x) c.as_slice-devices.ensures in
    let within = position_within old.network y i first in
    let there : slice_get old.network.devices i ≡ Some x = slice_get_read old.network.devices (length old.network.devices) i x refl within is in
    c.in_ok-positions.ensures.live old (step_replaced old (world_of s.networks.new) x y i c.requires.step.network c.requires.step.links first there) c.requires.live
