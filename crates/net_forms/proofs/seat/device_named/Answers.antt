use Rattle.std.proofs.Common.{◌≡◌, ◌∙◌, ℕ, Bool, ap, sym, Some, position, slice_get}
use Rattle.std.specs.Prelude.{◌==◌}
use Rattle.net_types.specs.declared.network.NetDevice.{NetDevice}
use Rattle.net_types.specs.World.{World}
use Rattle.net_forms.proofs.FindLemmas.{found, not_found}
use Rattle.net_forms.proofs.seat.device_named.Goals as goal

named : ℕ → NetDevice → Bool
named name d = d.name == name

pub returns-in_default-clause-device : goal.returns-in_default-clause-device
unfolding named
returns-in_default-clause-device c =
    sym (not_found (named c.args.name) c.args.network.now.world.network.now.devices (c.in_default.ensures ∙ ap (λ (w : World). position (named c.args.name) w.network.devices) c.requires.wiring))

device_there : (c : goal.In-Some-form_at) → Some c.in-Some-device_at.device.now ≡ slice_get c.args.network.now.world.network.now.devices c.in-Some.n
device_there c = c.in-Some-device_at.ensures ∙ ap (λ ds. slice_get ds c.in-Some.n) c.as_slice.ensures

form_there : (c : goal.In-Some-form_at) → Some c.in-Some-form_at.form.now ≡ slice_get c.args.network.now.devices.items c.in-Some.n
form_there c = c.in-Some-form_at.ensures ∙ ap (λ ds. slice_get ds c.in-Some.n) c.deref.ensures.value

pub returns-clause-device : goal.returns-clause-device
unfolding named
returns-clause-device c =
    sym (found (named c.args.name) c.args.network.now.world.network.now.devices c.in-Some.n c.in-Some-device_at.device.now (c.in-Some.ensures ∙ ap (λ (w : World). position (named c.args.name) w.network.devices) c.requires.wiring) (device_there c))

pub returns-clause-form : goal.returns-clause-form
returns-clause-form c = record { position = c.in-Some.n; device = sym (device_there c); form = sym (form_there c) }
