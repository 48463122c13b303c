use Rattle.std.proofs.Common.{sym, ap, ◌∙◌, Some, None}
use Rattle.std.specs.Option.{option_copied}
use Rattle.net_types.specs.World.{World, seat_at}
use Rattle.net_view.specs.Borrowed.{world_of}
use Rattle.link_sends.proofs.WireLemmas.{seat_with}
use Rattle.link_sends.proofs.device_index.DeviceIndex.seat.Goals as goal

pub returns-in_default : goal.returns-in_default
returns-in_default c =
    seat_with (world_of c.self.inside.world) c.args.place _ None (c.self.invariant c.args.place.device) (ap option_copied (sym c.in_default.is) ∙ c.device_in.ensures)
    ∙ ap (λ (w : World). seat_at w c.args.place) c.self.view_is

pub returns : goal.returns
returns c =
    c.seat_numbered.ensures
    ∙ seat_with (world_of c.self.inside.world) c.args.place _ (Some c.in-Some.device.now) (c.self.invariant c.args.place.device) (ap option_copied (sym c.in-Some.is) ∙ c.device_in.ensures)
    ∙ ap (λ (w : World). seat_at w c.args.place) c.self.view_is
