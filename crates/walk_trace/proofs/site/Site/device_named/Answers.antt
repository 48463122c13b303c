use Rattle.std.proofs.Common.{◌≡◌, ◌∙◌, ℕ, Bool, ap, sym, position, slice_get, option_and_then}
use Rattle.std.specs.Prelude.{◌==◌}
use Rattle.net_types.specs.declared.network.NetDevice.{NetDevice}
use Rattle.net_types.specs.World.{World}
use Rattle.net_view.specs.Borrowed.{world_of}
use Rattle.link_sends.proofs.PositionLemmas.{find_by_position}
use Rattle.walk_trace.proofs.site.Site.device_named.Goals as goal

named : ℕ → NetDevice → Bool
named name d = d.name == name

pub returns-in_default : goal.returns-in_default
unfolding named
returns-in_default c =
    let devices = c.args.self.now.network.devices in
    let wired : c.self.inside.wiring ≡ c.args.self.now = cc in
    ap (option_and_then (slice_get devices)) (c.in_default.ensures ∙ ap (λ (w : World). position (named c.args.name) w.network.devices) wired)
    ∙ find_by_position (named c.args.name) devices

pub returns : goal.returns
unfolding named
returns c =
    let devices = c.args.self.now.network.devices in
    let wired : c.self.inside.wiring ≡ c.args.self.now = cc in
    let viewed : world_of c.self.inside.world ≡ c.args.self.now = cc in
    let same : c.as_slice.result.now ≡ devices = c.as_slice.ensures ∙ ap (λ (w : World). w.network.devices) viewed in
    c.device_at.ensures ∙ ap (λ ds. slice_get ds c.in-Some.position) same
    ∙ ap (option_and_then (slice_get devices)) (c.in-Some.ensures ∙ ap (λ (w : World). position (named c.args.name) w.network.devices) wired)
    ∙ find_by_position (named c.args.name) devices
