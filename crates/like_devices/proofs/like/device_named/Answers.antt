use Rattle.std.proofs.Common.{ℕ, Bool, sym, ap, ◌∙◌, slice_get, option_and_then, position}
use Rattle.std.specs.Prelude.{◌==◌}
use Rattle.net_types.specs.declared.network.NetDevice.{NetDevice}
use Rattle.link_sends.proofs.PositionLemmas.{find_by_position}
use Rattle.like_devices.proofs.like.device_named.Goals as goal

named : ℕ → NetDevice → Bool
named name d = d.name == name

pub returns-in_default : goal.returns-in_default
unfolding named
returns-in_default c =
    ap (option_and_then (slice_get c.args.devices.now)) (c.in_default.ensures ∙ ap (position (named c.args.name)) (sym c.requires)) ∙ find_by_position (named c.args.name) c.args.devices.now

pub returns : goal.returns
unfolding named
returns c =
    c.device_at.ensures ∙ (ap (option_and_then (slice_get c.args.devices.now)) (c.in-Some.ensures ∙ ap (position (named c.args.name)) (sym c.requires)) ∙ find_by_position (named c.args.name) c.args.devices.now)
